use Rattle.control_flow.proofs.MaskLemmas.{registers_meet}
use Rattle.control_flow.proofs.masks.RegisterMask.meets.Goals as goal

pub returns : goal.returns
returns c = registers_meet c.args.self c.args.other
