use Rattle.proof_table.proofs.Common.{◌≡◌, ◌++◌, take, flat_map, little_bytes}
use Rattle.proof_table.proofs.entries.spell_indexes.Given as goal

abbrev pub invariant-loop-index : goal.invariant-loop-index
invariant-loop-index l =
    l.buffer.items ≡ l.initial.buffer.items
    ++ flat_map (little_bytes 4) (take l.index-index l.indexes)
