use Rattle.isa_model.specs.Code.Registers.{reg_number}
use Rattle.control_flow.proofs.MaskLemmas.{without_has}
use Rattle.control_flow.proofs.masks.RegisterMask.without.Goals as goal

pub returns : goal.returns
returns c = λ r. without_has c.args.self.bits c.args.other.bits (reg_number r)
