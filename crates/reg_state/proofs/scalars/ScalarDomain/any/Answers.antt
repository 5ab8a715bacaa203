use Rattle.reg_state.proofs.scalars.ScalarDomain.any.Goals as goal

pub returns : goal.returns
returns c =
    λ x. (
      λ h. (c.any.ensures x).0 h.0,
      λ h. ((c.any.ensures x).1 h, (c.any-2.ensures.members x).1 h),
    )
