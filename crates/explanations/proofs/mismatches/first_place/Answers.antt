use Rattle.std.proofs.Common.{refl}
use Rattle.explanations.proofs.FrontLaws.{front_next}
use Rattle.explanations.proofs.mismatches.first_place.Goals as goal

pub returns-in-None-clause-none : goal.returns-in-None-clause-none
returns-in-None-clause-none c = λ _.
    front_next c.args.entry.now c.args.state.now c.args.frame (c.in-None.ensures.none refl)
