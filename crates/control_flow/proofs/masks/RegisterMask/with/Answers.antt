use Rattle.control_flow.proofs.MaskLemmas.{with_has}
use Rattle.control_flow.proofs.masks.RegisterMask.with.Goals as goal

pub returns : goal.returns
returns c = with_has c.args.self c.args.register c.number.result c.number.ensures.value
