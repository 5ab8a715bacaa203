use Rattle.std.proofs.Common.{◌-◌, length, arith}
use Rattle.explanations.specs.Loops.{last_back}
use Rattle.explanations.proofs.Texts.{at_end}
use Rattle.explanations.proofs.loops.last_back.Goals as goal

pub returns : goal.returns
returns c =
    at_end (last_back c.args.image.now c.args.slots.now) c.loop-index.found
    c.loop-index.index (length c.args.slots.now - 1) (omega arith) c.loop-index.invariant
