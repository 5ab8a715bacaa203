use Rattle.std.proofs.Common.{rules, is_lt}
use Rattle.map_indexes.proofs.Common.{always_returns_same, ranks_by, nat_list_cmp_total, little_bytes, key_order}
use Rattle.map_indexes.proofs.arrays.sort_by_key.Goals as goal

pub returns-clause-sorted : goal.returns-clause-sorted
returns-clause-sorted c =
    c.sort_unstable_by.ensures.sorted
    (λ x y. is_lt (key_order (little_bytes 4 x) (little_bytes 4 y)))
    (ranks_by nat_list_cmp_total (little_bytes 4))
    (always_returns_same _ _ _ (λ a r q k. search rules))
