use Rattle.std.proofs.Common.{◌-◌, length, arith}
use Rattle.explanations.specs.Unset.{cause_of}
use Rattle.explanations.proofs.Texts.{at_end}
use Rattle.explanations.proofs.unset.cause_of.Goals as goal

pub returns : goal.returns
returns c =
    at_end (cause_of c.args.image.now c.args.register c.args.slots.now) c.loop-index.found
    c.loop-index.index (length c.args.slots.now - 1) (omega arith) c.loop-index.invariant
