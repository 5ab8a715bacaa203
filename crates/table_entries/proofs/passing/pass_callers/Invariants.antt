use Rattle.table_entries.proofs.Common.{◌≡◌, ◌-◌, true, frame_in, callers_in, many, seen, ArePassed}
use Rattle.table_entries.proofs.Seen.{and_seen}
use Rattle.table_entries.proofs.passing.pass_callers.Given as goal

-- what was passed over, and what is left
abbrev pub invariant-loop-holder : goal.invariant-loop-holder
invariant-loop-holder l = record {
  so_far : and_seen l.allowed
      (seen (many (λ k. frame_in l.rows k true) (l.count - l.holder) l.holder l.rest))
      ≡ seen (callers_in l.rows l.count l.bytes);
  passed : ArePassed l.rows l.passing.frames.items;
}
