use Rattle.reg_state.proofs.Common.{subst, Has}
use Rattle.reg_state.proofs.RelationsLaws.{moved_low}
use Rattle.reg_state.proofs.low_bits.plain_halves.Goals as goal

pub returns : goal.returns
returns c = λ x h. subst (Has c.alu.result) (moved_low x) (c.alu.ensures.contains x x h h)
