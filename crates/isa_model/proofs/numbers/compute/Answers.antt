use Rattle.isa_model.proofs.Common.{rules, alu}
use Rattle.isa_model.proofs.numbers.compute.Goals as goal

pub returns-in-Low32 : goal.returns-in-Low32
unfolding alu
returns-in-Low32 c = search rules
