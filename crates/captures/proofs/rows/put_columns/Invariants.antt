use Rattle.captures.proofs.Common.{◌≡◌, ◌+◌, ◌*◌, ◌++◌, take, flat_map, byte_column}
use Rattle.captures.proofs.rows.put_columns.Given as goal

abbrev pub invariant-loop-byte : goal.invariant-loop-byte
invariant-loop-byte l =
    (take l.end l.buffer
    ≡ take l.start l.initial.buffer ++ flat_map byte_column (take l.byte-index l.row))
    × (l.end ≡ l.start + 3 * l.byte-index)
