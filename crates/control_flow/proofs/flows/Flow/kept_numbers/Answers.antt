use Rattle.control_flow.proofs.Common.{sym, TargetOutside}
use Rattle.control_flow.proofs.FlowLaws.{IsFlow-Fails}
use Rattle.control_flow.proofs.LiveMasks.{keeps_tested}
use Rattle.control_flow.proofs.flows.Flow.kept_numbers.Goals as goal

pub kept_numbers-requires : goal.kept_numbers-requires
kept_numbers-requires c =
    λ slot h. IsFlow-Fails c.self.inside.image.now TargetOutside slot c.self.invariant.flow h

pub returns : goal.returns
returns c =
    keeps_tested c.args.self.now c.self.inside.image.now c.deref.result.now
    c.self.inside.tested.items c.self.inside.forgets c.kept_numbers.result
    (sym c.self.view_is) c.deref.ensures.value c.self.invariant.may_forget
    c.self.invariant.tests c.kept_numbers.ensures
