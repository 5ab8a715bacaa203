use Rattle.explanations.proofs.Common.{arith, length, function_at}
use Rattle.explanations.proofs.Texts.{at_end}
use Rattle.explanations.proofs.flows.function_at.Goals as goal

pub returns : goal.returns
returns c =
    at_end (function_at c.args.image.now c.args.slot) c.loop-from.found
    c.loop-from.from (length c.args.image.now.insns) (omega arith) c.loop-from.invariant
