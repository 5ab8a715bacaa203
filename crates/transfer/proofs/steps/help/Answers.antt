use Rattle.std.proofs.Common.{ℤ, Ok, refl, subst, w32}
use Rattle.transfer.proofs.Common.{to_z-of_z, CallsHelper}
use Rattle.transfer.proofs.steps.help.Goals as goal

pub returns : goal.returns
returns c = (
  refl,
  record {
    left = c.call_helper.new.state;
    leaving =
        subst (λ (n : ℤ).
        CallsHelper c.args.maps.now c.args.state.now n c.call_helper.new.state (Ok tt))
        (to_z-of_z w32 c.args.number c.ranges.number) c.in_ok-call_helper.ensures;
    next = refl;
  },
)
