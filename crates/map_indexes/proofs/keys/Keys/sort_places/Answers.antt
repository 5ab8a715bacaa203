use Rattle.std.proofs.Common.{rules, is_lt}
use Rattle.map_indexes.proofs.Common.{always_returns_same, ranks_by, nat_list_cmp_total, key_order, key_or_none}
use Rattle.map_indexes.proofs.keys.Keys.sort_places.Goals as goal

pub returns-clause-sorted : goal.returns-clause-sorted
returns-clause-sorted c =
    let key = key_or_none c.args.self.now.by_place in
    c.sort_unstable_by.ensures.sorted (λ x y. is_lt (key_order (key x) (key y)))
    (ranks_by nat_list_cmp_total key) (always_returns_same _ _ _ (λ a r q k. search rules))
