use Rattle.std.proofs.Common.{refl}
use Rattle.surveys.proofs.judging.refused.Goals as goal

pub returns-in_default-clause-says : goal.returns-in_default-clause-says
returns-in_default-clause-says c =
    λ p h. record {
      refusal = c.args.refusal;
      at = c.args.slot;
      refused = h;
      is_code = c.code.ensures;
      is_slot = refl;
    }

pub returns-in_default-clause-other : goal.returns-in_default-clause-other
returns-in_default-clause-other c = λ h. h

pub returns-in_default-clause-rest : goal.returns-in_default-clause-rest
returns-in_default-clause-rest c = refl
