use Rattle.maps.proofs.Common.{◌≡◌, ℕ, ◌≤◌, ◌+◌, ◌++◌, ◌∷◌, [], length, map, take, sym, ap, subst, ◌∙◌, arith, slice_index_or, vec_capacity, All, map-append, map_more, length-append, take_all, All-push, Hash, MapDef, places_of, IsRow, rows_of, starting_map, IsListed}
use Rattle.maps.proofs.KeySizes.{KeyFits-index}
use Rattle.maps.proofs.MapLaws.{rows_of-starting}
use Rattle.maps.proofs.AllMaps.{state, rows-stores}
use Rattle.maps.proofs.all.Maps.of_rows.Goals as goal

pub new-requires : goal.new-requires
new-requires c =
    let none : MapDef = record { kind = Hash; key_size = 0; value_size = 0; entries = 0 } in
    let row = slice_index_or c.args.rows.now c.loop-i.i none in
    KeyFits-index row.kind row.key_size (c.requires c.loop-i.i none c.loop-i-test.true).key

pub loop-i-preserved : goal.loop-i-preserved
loop-i-preserved c =
    let rows = c.args.rows.now in
    let i = c.loop-i.i in
    let none : MapDef = record { kind = Hash; key_size = 0; value_size = 0; entries = 0 } in
    let inv = c.loop-i.invariant in
    let x = c.in_ok-over.field-0 in
    let made = c.in_ok-over.ensures in
    let pushed = c.push_reserved.ensures in
    let places = ap places_of made.index ∙ c.in_ok-index.ensures.places in
    let same : state x
    ≡ starting_map
    (slice_index_or rows i none) = λ k.
    record { row = made.row k; places = places k; block = made.zeros k } in
    let cap = vec_capacity c.in_ok-list.list in
    let row = c.requires i none c.loop-i-test.true in
    let listed : IsListed cap x = record {
      is_row = subst IsRow (sym made.row) row;
      listed =
          subst (λ (r : MapDef). r.kind ≡ Hash → r.entries ≤ cap) (sym made.row)
          (λ e. let m = c.most_keys.ensures.enough i none c.loop-i-test.true
          e in let o = c.in_ok-list.ensures.capacity in omega arith);
    } in
    record {
      made =
          ap (map state) pushed.items ∙ map-append state c.loop-i.stores.items (x ∷ [])
          ∙ (λ k. inv.made k ++ same k ∷ [])
          ∙ sym (map_more starting_map rows i none c.loop-i-test.true);
      count =
          ap length pushed.items ∙ length-append c.loop-i.stores.items (x ∷ [])
          ∙ ap (λ (n : ℕ). n + 1) inv.count;
      room = let r = inv.room in let p = pushed.capacity in omega arith;
      listed =
          subst (All (IsListed cap)) (sym pushed.items)
          (All-push (IsListed cap) c.loop-i.stores.items x inv.listed listed);
    }

pub invariant_of-result : goal.invariant_of-result
invariant_of-result c =
    let rows = c.args.rows.now in
    let inv = c.loop-i.invariant in
    let all = take_all c.loop-i.i rows (omega arith) in
    let are =
    rows-stores c.loop-i.stores.items ∙ ap rows_of inv.made
    ∙ rows_of-starting (take c.loop-i.i rows) ∙ all in
    let room = c.in_ok-list.ensures.exact in
    record {
      room = record {
        listed = inv.listed;
        least =
            λ n few. let m =
            c.most_keys.ensures.least n
            (subst (All (λ (row : MapDef). row.kind ≡ Hash → row.entries ≤ n)) are
            few) in omega arith;
        exact =
            let r = inv.room in
            let n = inv.count in
            let end = c.loop-i-test.false in let within = c.loop-i.auto.i-end in omega arith;
      };
      kept = tt;
    }
