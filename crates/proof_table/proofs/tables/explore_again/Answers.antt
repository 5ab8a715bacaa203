use Rattle.proof_table.proofs.Common.{arith, subst, Program, start, HasNumber, OfStart}
use Rattle.proof_table.proofs.tables.explore_again.Goals as goal

pub returns : goal.returns
returns c = record {
  some = omega arith;
  few = omega arith;
  number =
      subst (λ (p : Program). OfStart c.in-Ok.explored (HasNumber p start))
      c.image-image.ensures.program c.in-Ok.ensures.number;
}
