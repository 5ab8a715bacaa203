use Rattle.table_entries.proofs.Common.{◌≡◌, ◌-◌, true, length, frame_in, callers_in, many, kept}
use Rattle.table_entries.proofs.Many.{with_front}
use Rattle.table_entries.proofs.frames.read_callers.Given as goal

-- what was read, and what is left to read
abbrev pub invariant-loop-holder : goal.invariant-loop-holder
invariant-loop-holder l =
    record {
      so_far : with_front (kept l.allowed l.callers.items)
          (many (λ k. frame_in l.rows k true) (l.count - l.holder) l.holder l.rest)
          ≡ callers_in l.rows l.count l.bytes;
      long : length l.callers.items ≡ l.holder;
    }
