use Rattle.map_indexes.proofs.Common.{◌*◌, ◌/◌, ◌^◌, ℕ, ap₂, chain_of}
use Rattle.map_indexes.proofs.hashing.chain_of.Goals as goal

pub returns-clause-chain : goal.returns-clause-chain
unfolding chain_of
returns-clause-chain c =
    ap₂ (λ (h n : ℕ). h / 2 ^ 32 * n / 2 ^ 32) c.hash_of-upper.ensures c.from.ensures
