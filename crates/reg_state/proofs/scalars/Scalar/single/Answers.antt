use Rattle.reg_state.proofs.scalars.Scalar.single.Goals as goal

pub returns-in-Some-alone-clause-contains : goal.returns-in-Some-alone-clause-contains
returns-in-Some-alone-clause-contains c =
    λ x h. c.in-Some-alone.ensures.found x h (c.in-Some.ensures.only x h.1)
