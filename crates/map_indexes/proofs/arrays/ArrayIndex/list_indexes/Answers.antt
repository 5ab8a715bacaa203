use Rattle.std.proofs.Common.{◌≡◌, ◌+◌, ◌++◌, ◌∷◌, [], List, ℕ, length, sym, ap, ◌∙◌, arith}
use Rattle.std.proofs.lemmas.List.FromFn.{length-range_with_len}
use Rattle.map_indexes.proofs.ArrayOrder.{range_with_len-more}
use Rattle.map_indexes.proofs.arrays.ArrayIndex.list_indexes.Goals as goal

pub push_reserved-requires : goal.push_reserved-requires
push_reserved-requires c =
    let inv = c.loop-i.invariant in
    let long = ap length inv.0 ∙ length-range_with_len 0 c.loop-i.i in
    let room = inv.1 in
    omega arith

pub loop-i-preserved : goal.loop-i-preserved
loop-i-preserved c =
    let i = c.loop-i.i in
    let inv = c.loop-i.invariant in
    let e = c.push_reserved.ensures in
    let s : 0 + i ≡ i = omega arith in (
      e.items ∙ ap (λ (l : List ℕ). l ++ i ∷ []) inv.0 ∙ sym (range_with_len-more 0 i i s),
      e.capacity ∙ inv.1,
    )
