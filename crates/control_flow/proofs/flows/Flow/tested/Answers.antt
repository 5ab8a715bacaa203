use Rattle.std.proofs.Common.{sym}
use Rattle.control_flow.proofs.LiveMasks.{register_tested}
use Rattle.control_flow.proofs.flows.Flow.tested.Goals as goal

pub returns : goal.returns
returns c =
    register_tested c.args.self.now c.self.inside.image.now c.deref.result.now
    c.self.inside.tested.items c.mask_of.result c.args.slot
    (sym c.self.view_is) c.deref.ensures.value c.mask_of.ensures c.self.invariant.tests
