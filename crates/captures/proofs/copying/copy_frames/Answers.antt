use Rattle.std.proofs.Common.{rules, refl}
use Rattle.captures.proofs.CopiesLaws.{all_copied, begun-magic, none_copied, one_copied, one_failed, start_failed}
use Rattle.captures.proofs.copying.copy_frames.Goals as goal

pub returns-in-Err : goal.returns-in-Err
returns-in-Err g c =
    start_failed _ _ _ _ _ _ _ _
    (begun-magic _ _ _ _ _ _ _ (search rules) (search rules) c.begin.ensures.opens
    c.begin.ensures.begun c.version_begun-version.ensures) c.in-Err.ensures.err

pub frames-init : goal.frames-init
frames-init g c = (
  _,
  none_copied _ _ _ _ _ _ _ _ _
      (begun-magic _ _ _ _ _ _ _ (search rules) (search rules) c.begin.ensures.opens
      c.begin.ensures.begun c.version_begun-version.ensures) c.in-Ok.ensures.ok
      c.none-counts.ensures,
)

pub frames-preserved : goal.frames-preserved
frames-preserved g c =
    let (frames, s) = c.frames.invariant in (
      _,
      one_copied c.args.form c.args.placing _ _ _ frames _ _ _ _ _ _ _ _ s c.hand_on.ensures _
          c.in-Frame.ensures.finds
          _ (rw c.placed-own.ensures at c.in-Ok-write_as.ensures.ok)
          c.after-counts.ensures,
    )

pub returns-in-Err-write_as : goal.returns-in-Err-write_as
returns-in-Err-write_as g c =
    let (frames, s) = c.frames.invariant in
    one_failed c.args.form c.args.placing _ _ _ frames _ _ _ _ _ _ _ _ s c.hand_on.ensures _
    c.in-Frame.ensures.finds
    (rw c.placed-own.ensures at c.in-Err-write_as.ensures.err)

pub returns-in-End : goal.returns-in-End
returns-in-End g c =
    let (frames, s) = c.frames.invariant in
    all_copied c.args.form c.args.placing _ _ _ frames _ _ _ _ _ _ _
    (g.W.Write.contents c.hand_on.new.out) s
    c.hand_on.ensures _ _ c.in-End.ensures.finds refl

pub returns-in-Fault : goal.returns-in-Fault
returns-in-Fault g c =
    let (frames, s) = c.frames.invariant in
    all_copied c.args.form c.args.placing _ _ _ frames _ _ _ _ _ _ _
    (g.W.Write.contents c.hand_on.new.out) s
    c.hand_on.ensures _ _ c.in-Fault.ensures.finds refl
