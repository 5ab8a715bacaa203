use Rattle.captures.proofs.Common.{◌≡◌, ◌+◌, ◌++◌, [], ◌∷◌, take, flat_map, shown_byte}
use Rattle.captures.proofs.rows.put_shown.Given as goal

abbrev pub invariant-loop-byte : goal.invariant-loop-byte
invariant-loop-byte l =
    (take l.end l.buffer
    ≡ take l.start l.initial.buffer
    ++ flat_map (λ byte. shown_byte byte ∷ []) (take l.byte-index l.row))
    × (l.end ≡ l.start + l.byte-index)
