use Rattle.std.proofs.Common.{sym}
use Rattle.control_flow.proofs.LiveMasks.{slot_ends}
use Rattle.control_flow.proofs.flows.Flow.ends_plainly.Goals as goal

pub returns : goal.returns
returns c =
    slot_ends c.args.self.now c.self.inside.image.now c.deref.result.now
    c.self.inside.endings.items c.is_marked.result c.args.slot
    (sym c.self.view_is) c.deref.ensures.value c.is_marked.ensures c.self.invariant.ends
