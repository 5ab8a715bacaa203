use Rattle.std.proofs.Common.{arith}
use Rattle.control_flow.proofs.InputLaws.{below_all}
use Rattle.control_flow.proofs.number_passes.may_forget_numbers.Goals as goal

pub returns : goal.returns
returns c =
    below_all c.args.image.now c.loop-slot.slot c.loop-slot.takes (omega arith)
    c.loop-slot.invariant
