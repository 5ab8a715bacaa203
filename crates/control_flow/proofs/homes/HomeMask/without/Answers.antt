use Rattle.control_flow.proofs.MaskLemmas.{both_without}
use Rattle.control_flow.proofs.homes.HomeMask.without.Goals as goal

pub returns : goal.returns
returns c = both_without c.args.self c.args.other _ c.without.ensures c.without-2.ensures
