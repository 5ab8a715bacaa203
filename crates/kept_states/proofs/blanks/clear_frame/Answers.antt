use Rattle.kept_states.proofs.Common.{List, replicate, ap, Unset, StackSlot, unset_frame}
use Rattle.kept_states.proofs.blanks.clear_frame.Goals as goal

pub returns : goal.returns
unfolding unset_frame
returns c =
    ap (λ (slots : List StackSlot).
    record {
      return_slot = c.args.frame.now.return_slot;
      registers = replicate 10 Unset;
      stack = record { slots = slots };
    })
    c.clear.ensures
