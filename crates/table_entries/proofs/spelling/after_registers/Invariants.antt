use Rattle.table_entries.proofs.Common.{◌≡◌, ◌-◌, Some, take, kind_in, many}
use Rattle.table_entries.proofs.Many.{with_front}
use Rattle.table_entries.proofs.spelling.after_registers.Given as goal

-- what was spelled, and what is left to read
abbrev pub invariant-loop-index : goal.invariant-loop-index
invariant-loop-index l =
    with_front (Some (take l.index l.registers))
    (many (λ k. kind_in l.rows l.holder) (10 - l.index) l.index l.rest)
    ≡ many (λ k. kind_in l.rows l.holder) 10 0 l.bytes
