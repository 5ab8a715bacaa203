use Rattle.rechecking.proofs.Common.{length, sym, ap, ◌∙◌, arith, Some, slice_get-get_or, IsFrameUnchanged}
use Rattle.rechecking.proofs.ChangeLaws.{FirstHave-next, FirstHave-fewer}
use Rattle.rechecking.proofs.changes.frames_kept.Goals as goal

pub loop-index-preserved : goal.loop-index-preserved
loop-index-preserved c = λ k y less there.
    let xs = c.args.frames.now in
    let i = c.loop-index.index in
    let x = c.index-frames-index.result in
    FirstHave-next (IsFrameUnchanged c.args.change) i xs x
    (slice_get-get_or xs i x c.loop-index-test.true ∙ ap Some (sym c.index-frames-index.is))
    (c.is_frame_kept.ensures c.if-not-is_frame_kept.false)
    c.loop-index.invariant k y (omega arith) there

pub returns : goal.returns
returns c =
    FirstHave-fewer (IsFrameUnchanged c.args.change)
    (length c.args.frames.now) c.loop-index.index c.args.frames.now (omega arith)
    c.loop-index.invariant
