use Rattle.isa_model.proofs.Common.{rules, reordered}
use Rattle.isa_model.proofs.numbers.reorder.Goals as goal

pub returns-in_default-B16 : goal.returns-in_default-B16
unfolding reordered
returns-in_default-B16 c = search rules
