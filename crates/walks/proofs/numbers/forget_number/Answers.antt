use Rattle.walks.proofs.Common.{sym, subst, inl, Number, ForgetsNumber}
use Rattle.walks.proofs.numbers.forget_number.Goals as goal

pub returns-in-Number : goal.returns-in-Number
returns-in-Number c =
    subst (λ k. ForgetsNumber k (Number c.any.result)) (sym c.in-Number.is)
    (inl (tt, λ x below. (c.any.ensures x).1 below))
