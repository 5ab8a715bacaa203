use Rattle.kept_states.proofs.Common.{refl, ◌∙◌, ap, Scalar, Number}
use Rattle.kept_states.proofs.ConstantsLaws.{constant_numbers-is}
use Rattle.kept_states.proofs.constants.constant_of.Goals as goal

pub returns : goal.returns
returns c =
    let numbers = c.in-Number.numbers in
    c.in-Number.is ∙ ap (λ (s : Scalar). Number s)
    (constant_numbers-is numbers numbers.bits.value
    ((refl, c.if-numbers-ne0.false), c.has_limits.ensures c.if-not-has_limits.false))
