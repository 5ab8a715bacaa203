use Rattle.stack_state.proofs.Common.{◌*◌, AreFree, IsFreshAt, Marks}
use Rattle.stack_state.proofs.identities.mark_frames.Given as goal

-- the places of the call frames before it are marked
abbrev pub invariant-loop-index : goal.invariant-loop-index
invariant-loop-index l =
    Marks (AreFree (IsFreshAt l.sort l.frames) l.index) (74 * l.index) l.initial.named l.named
