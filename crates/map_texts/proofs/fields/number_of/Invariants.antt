use Rattle.map_texts.proofs.Common.{◌≡◌, ℕ, ◌-◌, ◌^◌, drop, min, number_from}
use Rattle.map_texts.proofs.fields.number_of.Given as goal

-- the number is capped, and that of the digits so far goes on without a cap
abbrev pub invariant-loop-byte : goal.invariant-loop-byte
invariant-loop-byte l =
    (n : ℕ) × (l.number ≡ min n (2 ^ 64 - 1))
    × (number_from 0 l.digits ≡ number_from n (drop l.byte-index l.digits))
