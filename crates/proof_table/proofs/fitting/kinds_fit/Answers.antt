use Rattle.proof_table.proofs.Common.{subst, refl, take_all, arith, All, All-more, KindFits}
use Rattle.proof_table.proofs.fitting.kinds_fit.Goals as goal

pub loop-kind-preserved : goal.loop-kind-preserved
loop-kind-preserved c =
    let fits = KindFits c.args.rows c.args.holder in
    All-more fits c.args.kinds.now c.loop-kind.kind-index c.kind-item.result
    (omega arith) c.loop-kind.invariant
    (c.if-not-kind_fits.ensures.0 refl)

pub returns-clause-fit : goal.returns-clause-fit
returns-clause-fit c =
    let fits = KindFits c.args.rows c.args.holder in (
      λ yes. subst (All fits)
          (take_all c.loop-kind.kind-index c.args.kinds.now (omega arith)) c.loop-kind.invariant,
      λ h.
          refl,
    )
