use Rattle.live_maps.proofs.Common.{◌≡◌, ◌∙◌, ap, subst, ℕ, length, arith, slice_set, values, IsMap, map_at, IsOrderOf, PlaceOrder, kept_at, serials_in, serials_of, NumbersAll, count_before}
use Rattle.live_maps.proofs.PlaceOrderLaws.{IsOrderOf-numbered, NumbersAll-kept, length-serials_in, length-serials_of, serials_at-kept, serials_in-set}
use Rattle.live_maps.proofs.NumberingLaws.{numbers-next, count_before-suc, count_before-all, values-few}
use Rattle.live_maps.proofs.OrderLaws.{AreOrdersOf-numbered, kept_found}
use Rattle.live_maps.proofs.numbering.number_all.Goals as goal
use Rattle.live_maps.proofs.numbering.number_all.Goals.{After-index_mut}

-- what is kept of the map that is next
here : (c : After-index_mut)
    → IsOrderOf (map_at c.args.maps.now c.loop-m.m) c.index_mut.result.now
here c =
    let m = c.loop-m.m in
    let kept = c.loop-m.invariant.kept in
    let long = kept.long in
    let count = c.count-m-end.ensures.count in
    let test = c.loop-m-test.true in
    subst (λ (k : PlaceOrder). IsOrderOf (map_at c.args.maps.now m) k)
    (kept_found c.loop-m.all.items m c.index_mut.result.now _ (omega arith)
    c.index_mut.ensures.value)
    (kept.each m (omega arith))

pub number-next-requires-clause-few : goal.number-next-requires-clause-few
number-next-requires-clause-few c =
    let few = c.loop-m.invariant.few in
    let maps_few = c.requires.few in
    let count = c.count-m-end.ensures.count in
    omega arith

pub number-next-requires-clause-kept : goal.number-next-requires-clause-kept
number-next-requires-clause-kept c =
    here (goal.at.number-next-requires-clause-kept c).After-index_mut

pub overflow_add-next : goal.overflow_add-next
overflow_add-next c =
    let is : IsMap (map_at c.args.maps.now c.loop-m.m) =
    c.count-m-end.ensures.maps c.loop-m.m _ (omega arith) in
    let row = is.is_row.few_entries in
    let many = values-few (map_at c.args.maps.now c.loop-m.m) is in
    let counted = c.number-next.ensures.count in
    let most = c.loop-m.invariant.few in
    let maps_few = c.requires.few in
    omega arith

pub loop-m-preserved : goal.loop-m-preserved
loop-m-preserved c =
    let w = (goal.at.loop-m-preserved c).After-index_mut in
    let maps = c.args.maps.now in
    let m = c.loop-m.m in
    let x = map_at maps m in
    let i = c.loop-m.invariant in
    let items = c.loop-m.all.items in
    let k : PlaceOrder = c.number-next.new.self in
    let done = c.number-next.ensures in
    let is : IsMap x = c.count-m-end.ensures.maps m _ (omega arith) in
    let row = is.is_row.few_entries in
    let many = values-few x is in
    let counted = done.count in
    let next = i.next in
    let most = i.few in
    let maps_few = c.requires.few in
    let more = count_before-suc maps m (omega arith) in
    let before = here w in
    let long : length k.since ≡ x.row.entries = done.long ∙ before.long in
    let first : k.first ≡ count_before maps m = done.first ∙ next in
    let kept_long = i.kept.long in
    let same = length-serials_in items in
    record {
      room = i.room;
      kept =
          AreOrdersOf-numbered maps items m k (omega arith)
          (IsOrderOf-numbered x k is done.order long (done.room ∙ before.room) done.same) i.kept;
      numbers =
          numbers-next maps (serials_in items) (serials_in (slice_set items m k)) m (serials_of k)
          (omega arith) (serials_in-set items m k) i.numbers
          (subst (λ (n : ℕ). NumbersAll n (values x.places) (serials_of k)) first
          (NumbersAll-kept x k is done.order long done.same));
      next = omega arith;
      few = omega arith;
    }

pub returns : goal.returns
returns c =
    let maps = c.args.maps.now in
    let m = c.loop-m.m in
    let inv = c.loop-m.invariant in
    let items = c.loop-m.all.items in
    let count = c.count-m-end.ensures.count in
    let last : m ≡ length maps = omega arith in
    let few = c.requires.few in
    let long = inv.kept.long in
    let same = length-serials_in items in
    let most = inv.few in
    record {
      numbered =
          record {
            are =
                record {
                  long = omega arith;
                  rooms = λ k l. ap length (serials_at-kept items k)
                      ∙ length-serials_of (kept_at items k) ∙ (inv.kept.each k l).long;
                  numbers = λ k l. inv.numbers k (omega arith);
                };
            counted = inv.next ∙ ap (count_before maps) last ∙ count_before-all maps;
            few = omega arith;
          };
      maps = c.count-m-end.ensures.maps;
      room = inv.room;
      kept = inv.kept;
    }
