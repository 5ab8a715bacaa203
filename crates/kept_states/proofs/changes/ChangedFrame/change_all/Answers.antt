use Rattle.kept_states.proofs.Common.{◌+◌, sym, subst, arith, IsChanged}
use Rattle.kept_states.proofs.ChangeLaws.{IsChanged-none, IsChanged-more}
use Rattle.kept_states.proofs.changes.ChangedFrame.change_all.Goals as goal
use Rattle.kept_states.proofs.changes.ChangedFrame.change_all.Goals.{then-add+in-Ok, else-add}

pub loop-index-init : goal.loop-index-init
loop-index-init c = (omega arith, IsChanged-none c.args.self.now)

pub loop-index-preserved : goal.loop-index-preserved
loop-index-preserved c =
    let first = c.args.self.now in
    let before = c.loop-index.invariant in
    elim c.if-add.branch [
      | then-add+in-Ok w ↦ (
        omega (arith, w.count-is, before.0, w.in-Ok.ensures.most),
        subst (λ n. IsChanged n first c.if-add.self) (sym w.count-is)
            (subst (λ s. IsChanged (c.loop-index.count + w.in-Ok.more) first s) (sym w.self-is)
            (IsChanged-more c.loop-index.count w.in-Ok.more first c.loop-index.self _ before.1
            w.in-Ok.ensures.changes)),
      )
      | else-add w ↦ (
        omega (arith, w.count-is, before.0),
        subst (λ n. IsChanged n first c.if-add.self) (sym w.count-is)
            (subst (λ s. IsChanged c.loop-index.count first s) (sym w.self-is) before.1),
      )
    ]
