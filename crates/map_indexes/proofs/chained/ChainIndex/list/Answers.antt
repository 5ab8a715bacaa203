use Rattle.map_indexes.proofs.Common.{◌≡◌, ◌∙◌, sym, ap, subst, length, List, ℕ, IsPermutation, length_permutation}
use Rattle.map_indexes.proofs.KeyOrderLaws.{values-sorted}
use Rattle.map_indexes.proofs.KeyLemmas.{lent_whole}
use Rattle.map_indexes.proofs.chained.ChainIndex.list.Goals as goal

pub returns-clause-places : goal.returns-clause-places
returns-clause-places c =
    let keys = c.args.self.now.keys.by_place in
    let list = c.list_used.new.list in
    let sorted = c.sort_places.new.places in
    let moved = c.sort_places.ensures.permutation in
    let used = c.as_mut_slice.ensures.value ∙ c.list_used.ensures.places in
    let long : length sorted ≡ list.len =
    length_permutation c.as_mut_slice.result.now sorted moved
    ∙ ap length c.as_mut_slice.ensures.value ∙ sym list.ok.0 in
    lent_whole sorted list.items list.len long
    ∙ values-sorted keys c.args.self.now.index.scan.distinct sorted
    (subst (λ (xs : List ℕ). IsPermutation xs sorted) used moved) c.sort_places.ensures.sorted
