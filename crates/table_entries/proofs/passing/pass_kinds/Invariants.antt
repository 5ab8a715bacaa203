use Rattle.table_entries.proofs.Common.{◌≡◌, ◌-◌, kind_in, many, seen}
use Rattle.table_entries.proofs.Seen.{and_seen}
use Rattle.table_entries.proofs.passing.pass_kinds.Given as goal

-- what was passed over, and what is left
abbrev pub invariant-loop-index : goal.invariant-loop-index
invariant-loop-index l =
    and_seen l.allowed (seen (many (λ k. kind_in l.rows l.holder) (10 - l.index) l.index l.rest))
    ≡ seen (many (λ k. kind_in l.rows l.holder) 10 0 l.bytes)
