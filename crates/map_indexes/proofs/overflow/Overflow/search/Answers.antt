use Rattle.map_indexes.proofs.Common.{ℕ, List, subst, rules, always_returns_same, IsBinarySearchResult, key_order, key_or_none}
use Rattle.map_indexes.proofs.overflow.Overflow.search.Goals as goal

pub returns-clause-position : goal.returns-clause-position
returns-clause-position c =
    let order = λ (p : ℕ). key_order (key_or_none c.args.keys.now.by_place p) c.args.key.now in
    subst (λ (xs : List ℕ). IsBinarySearchResult order xs c.binary_search_by.result)
    c.as_slice.ensures.value
    (c.binary_search_by.ensures.position order
    (always_returns_same _ _ _ (λ a r q k. search rules)))
