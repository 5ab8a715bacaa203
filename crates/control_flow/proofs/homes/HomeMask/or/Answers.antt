use Rattle.control_flow.proofs.MaskLemmas.{both_or}
use Rattle.control_flow.proofs.homes.HomeMask.or.Goals as goal

pub returns-clause-all : goal.returns-clause-all
returns-clause-all c = both_or c.args.self c.args.other _ c.or.ensures.all c.or-2.ensures.all
