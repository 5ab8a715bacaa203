use Rattle.live_maps.proofs.Common.{◌<◌, ◌∙◌, List, length, sym, subst, arith, IsMap, map_at, IsOrderOf, PlaceOrder, kept_at}
use Rattle.live_maps.proofs.PlaceOrderLaws.{IsOrderOf-numbered, kept-push}
use Rattle.live_maps.proofs.serials.serials_for.Goals as goal

pub loop-m-preserved : goal.loop-m-preserved
loop-m-preserved c =
    let maps = c.args.maps.now in
    let m = c.loop-m.m in
    let inv = c.loop-m.invariant in
    let old = c.loop-m.all.items in
    let count = c.count-m-end.ensures.count in
    let less = c.loop-m-test.true in
    let inside : m < length maps = omega arith in
    let is : IsMap (map_at maps m) = c.count-m-end.ensures.maps m _ inside in
    let made = c.in_ok-new.ensures in
    let k : PlaceOrder = c.in_ok-new.field-0 in
    let vector = c.loop-m.all.ok.0 in
    let len = inv.len in
    let pushed = c.push_reserved.ensures in
    let more = pushed.len in
    let one : IsOrderOf (map_at maps m) k =
    IsOrderOf-numbered (map_at maps m) k is made.order made.long made.room made.same in
    record {
      len = omega arith;
      room = pushed.capacity ∙ inv.room;
      kept = λ j l.
          subst (λ (xs : List PlaceOrder). IsOrderOf (map_at maps j) (kept_at xs j)) (sym pushed.items)
          (kept-push maps old m k (omega arith) inv.kept one j l);
    }

pub returns-clause-kept : goal.returns-clause-kept
returns-clause-kept c =
    let inv = c.loop-m.invariant in
    let count = c.count-m-end.ensures.count in
    let past = c.loop-m-test.false in
    let end = c.loop-m.auto.m-end in
    let len = inv.len in
    let vector = c.loop-m.all.ok.0 in
    record { long = omega arith; each = λ j l. inv.kept j (omega arith) }
