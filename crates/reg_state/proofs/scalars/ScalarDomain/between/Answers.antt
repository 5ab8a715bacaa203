use Rattle.reg_state.proofs.scalars.ScalarDomain.between.Goals as goal

pub returns-clause-contains : goal.returns-clause-contains
returns-clause-contains c =
    λ x from to.
    (c.between.ensures.contains x from to, (c.between-2.ensures.members x).1 (from, to))

pub returns-clause-only : goal.returns-clause-only
returns-clause-only c = λ x h. (c.between-2.ensures.members x).0 h.1
