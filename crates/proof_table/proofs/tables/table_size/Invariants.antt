use Rattle.proof_table.proofs.Common.{◌≡◌, ◌-◌, ◌^◌, List, ℕ, Some, length, min, head_bytes, GainsEntries}
use Rattle.proof_table.proofs.tables.table_size.Given as goal

-- so many bytes have the head and the entries before the index
abbrev pub invariant-loop-at : goal.invariant-loop-at
invariant-loop-at l =
    (written : List ℕ)
    × GainsEntries l.image l.explored l.at (Some (head_bytes (length l.explored)))
    (Some written) × (l.size ≡ min (length written) (2 ^ 64 - 1))
