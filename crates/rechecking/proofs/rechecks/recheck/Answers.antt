use Rattle.std.proofs.Common.{subst, slice_get}
use Rattle.isa_model.specs.Running.Outcomes.{StartsEnd}
use Rattle.rechecking.proofs.TableLaws.{StartsEnd-closed}
use Rattle.rechecking.proofs.rechecks.recheck.Goals as goal

pub from_within-requires-clause-ends : goal.from_within-requires-clause-ends
from_within-requires-clause-ends c =
    let shown = c.in_ok-bound.ensures.shown in
    subst (StartsEnd c.args.image) shown.number_is
    (StartsEnd-closed c.args.image (slice_get shown.entries) shown.closed)
