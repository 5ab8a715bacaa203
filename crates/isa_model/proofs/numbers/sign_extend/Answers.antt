use Rattle.isa_model.proofs.Common.{rules, sign_extended}
use Rattle.isa_model.proofs.numbers.sign_extend.Goals as goal

pub returns-in-Full8 : goal.returns-in-Full8
unfolding sign_extended
returns-in-Full8 c = search rules
