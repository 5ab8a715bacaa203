use Rattle.table_entries.proofs.Common.{◌≡◌, ◌-◌, Some, true, take, length, frame_in, callers_in, SpellFrames, many}
use Rattle.table_entries.proofs.Many.{with_front}
use Rattle.table_entries.proofs.spelled_entries.after_callers.Given as goal

-- what was spelled, and what is left to read; what is known spells the frames
abbrev pub invariant-loop-holder : goal.invariant-loop-holder
invariant-loop-holder l = record {
  so_far : with_front (Some (take l.holder l.callers))
      (many (λ k. frame_in l.rows k true) (length l.callers - l.holder) l.holder l.rest)
      ≡ callers_in l.rows (length l.callers) l.bytes;
  spelled : SpellFrames l.rows l.known.items l.callers;
}
