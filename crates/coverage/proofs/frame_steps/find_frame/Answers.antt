use Rattle.std.proofs.Common.{◌≡◌, ◌≤◌, [], refl, sym, ap, ◌∙◌, rules, arith, inl, inr}
use Rattle.std.proofs.lemmas.Result.{IfOk-weaker}
use Rattle.coverage.proofs.FrameLoop.{begun_by, more_begun, more_numbered, more_carried}
use Rattle.coverage.proofs.StepsLaws.{found_frame, no_frame}
use Rattle.coverage.proofs.frame_steps.find_frame.Goals as goal

pub loop-before-init : goal.loop-before-init
loop-before-init g c = (
  [],
  begun_by g.R.Source.remaining g.R.Source.may_fail _ _ _ _ _ _ c.new-reader.ensures
      c.begin.ensures.opens c.begin.ensures.begun c.version_begun-stream.ensures,
  refl,
  refl,
  refl,
)

pub loop-before-preserved : goal.loop-before-preserved
loop-before-preserved g c =
    let (taken, begun, n, p, held) = c.loop-before.invariant in (
      _,
      more_begun _ taken _ _ _ _ _ _ begun c.in-Frame.ensures.finds,
      more_numbered taken _ _ n,
      c.pass_frame.ensures.program ∙ p,
      more_carried _ _ _ _ _ _ taken _ p held c.pass_frame.ensures.contents,
    )

pub returns-in-End : goal.returns-in-End
returns-in-End g c =
    let (taken, begun, n, p, held) = c.loop-before.invariant in
    inr (no_frame _ _ _ _ taken _ _ _ _ _ n (omega arith) begun c.in-End.ensures.finds)

pub returns-in-Fault : goal.returns-in-Fault
returns-in-Fault g c =
    let (taken, begun, n, p, held) = c.loop-before.invariant in
    inr (no_frame _ _ _ _ taken _ _ _ _ _ n (omega arith) begun c.in-Fault.ensures.finds)

pub returns-in-Frame-next : goal.returns-in-Frame-next
returns-in-Frame-next g c =
    let (taken, begun, n, p, held) = c.loop-before.invariant in
    IfOk-weaker c.show_frame.result _ _
    (λ answer shows. inl (found_frame _ _ _ _
    (record { bytes = g.R.Source.remaining c.args.source; may_fail = g.R.Source.may_fail }) _ _
    taken _ _ _ _ _ answer p held (omega (arith, n)) begun c.in-Frame-next.ensures.finds shows))
    c.show_frame.ensures

pub returns-in-End-next : goal.returns-in-End-next
returns-in-End-next g c =
    let (taken, begun, n, p, held) = c.loop-before.invariant in
    inr (no_frame _ _ _ _ taken _ _ _ _ _ (omega (arith, n)) (omega arith) begun
    c.in-End-next.ensures.finds)

pub returns : goal.returns
returns g c =
    let (taken, begun, n, p, held) = c.loop-before.invariant in
    inr (no_frame _ _ _ _ taken _ _ _ _ _ (omega (arith, n)) (omega arith) begun
    c.in-Fault-next.ensures.finds)
