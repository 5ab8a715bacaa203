use Rattle.kept_states.proofs.Common.{ap, Scalar, Number, InRegister}
use Rattle.kept_states.proofs.ConstantsLaws.{constant_numbers-is}
use Rattle.kept_states.proofs.constants.constant_part.Goals as goal

pub returns : goal.returns
returns c =
    ap (λ (s : Scalar). InRegister c.args.number (Number s))
    (constant_numbers-is c.constant.result c.args.value c.constant.ensures)
