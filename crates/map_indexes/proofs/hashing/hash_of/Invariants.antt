use Rattle.map_indexes.proofs.Common.{◌≡◌, ◌+◌, ◌/◌, length, words_mixed}
use Rattle.map_indexes.proofs.hashing.hash_of.Given as goal

abbrev pub invariant-loop-rest : goal.invariant-loop-rest
invariant-loop-rest l =
    words_mixed ((length l.rest + 3) / 4) l.rest l.hash
    ≡ words_mixed ((length l.key + 3) / 4) l.key 0

abbrev pub decreases-loop-rest : goal.decreases-loop-rest
decreases-loop-rest l = length l.rest
