use Rattle.map_indexes.proofs.Common.{◌≡◌, ◌∙◌, sym, ap, subst, length, List, ℕ, arith, IsPermutation, length_permutation}
use Rattle.map_indexes.proofs.ArrayOrder.{indexes-sorted}
use Rattle.map_indexes.proofs.KeyLemmas.{lent_whole}
use Rattle.map_indexes.proofs.arrays.ArrayIndex.list.Goals as goal

pub returns-clause-places : goal.returns-clause-places
returns-clause-places c =
    let n = c.args.self.now.entries in
    let small = c.args.self.now.small in
    let list = c.list_indexes.new.list in
    let sorted = c.sort_by_key.new.indexes in
    let moved = c.sort_by_key.ensures.permutation in
    let all = c.as_mut_slice.ensures.value ∙ c.list_indexes.ensures.indexes in
    let long : length sorted ≡ list.len =
    length_permutation c.as_mut_slice.result.now sorted moved
    ∙ ap length c.as_mut_slice.ensures.value ∙ sym list.ok.0 in
    lent_whole sorted list.items list.len long
    ∙ indexes-sorted n (omega arith) sorted
    (subst (λ (xs : List ℕ). IsPermutation xs sorted) all moved) c.sort_by_key.ensures.sorted
