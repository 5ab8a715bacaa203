use Rattle.std.proofs.Common.{sym}
use Rattle.control_flow.proofs.LiveMasks.{register_live}
use Rattle.control_flow.proofs.flows.Flow.live.Goals as goal

pub returns : goal.returns
returns c =
    register_live c.args.self.now c.self.inside.image.now c.deref.result.now
    c.self.inside.masks.items c.mask_of.result c.args.slot
    (sym c.self.view_is) c.deref.ensures.value c.mask_of.ensures c.self.invariant.live
