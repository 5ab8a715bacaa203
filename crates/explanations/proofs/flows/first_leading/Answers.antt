use Rattle.explanations.proofs.Common.{arith, length, first_leading}
use Rattle.explanations.proofs.Texts.{at_end}
use Rattle.explanations.proofs.flows.first_leading.Goals as goal

pub returns : goal.returns
returns c =
    at_end (first_leading c.args.image.now c.args.only_calls c.args.to) c.loop-slot.found
    c.loop-slot.slot (length c.args.image.now.insns) (omega arith) c.loop-slot.invariant
