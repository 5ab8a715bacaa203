use Rattle.proof_table.proofs.Common.{ℕ, ◌<◌, true, get_or, AbstractFrame, FrameFits, frame_said}
use Rattle.proof_table.proofs.fitting.callers_fit.Given as goal

abbrev pub invariant-loop-holder : goal.invariant-loop-holder
invariant-loop-holder l =
    (k : ℕ) (d : AbstractFrame) → k < l.holder
    → FrameFits l.rows k true (frame_said (get_or l.callers k d))
