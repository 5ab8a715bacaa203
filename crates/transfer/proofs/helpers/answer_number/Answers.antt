use Rattle.reg_state.specs.declared.kinds.Kind.TheVariants.{Number}
use Rattle.transfer.proofs.helpers.answer_number.Goals as goal

pub returns : goal.returns
returns c = (Number c.any.result, λ x below. (c.any.ensures x).1 below, c.answer.ensures)
