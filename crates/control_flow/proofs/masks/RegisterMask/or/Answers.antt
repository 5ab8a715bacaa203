use Rattle.control_flow.proofs.Common.{le_or_l, reg_number}
use Rattle.control_flow.proofs.MaskLemmas.{or_has}
use Rattle.control_flow.proofs.masks.RegisterMask.or.Goals as goal

pub returns-clause-all : goal.returns-clause-all
returns-clause-all c = λ r. or_has c.args.self.bits c.args.other.bits (reg_number r)

pub returns-clause-grown : goal.returns-clause-grown
returns-clause-grown c = le_or_l c.args.self.bits c.args.other.bits
