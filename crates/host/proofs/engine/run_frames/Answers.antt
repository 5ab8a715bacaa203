use Rattle.host.proofs.Common.{rules, refl, ◌∙◌, Outputs}
use Rattle.host.proofs.Notes.{noted_more}
use Rattle.host.proofs.FrameLoop.{begin_opens, after_flush, magic_failed, none_taken, one_taken, one_failed, all_taken, has_taken, carried_more}
use Rattle.host.proofs.engine.run_frames.Goals as goal

pub returns-in-Err-clause-takes : goal.returns-in-Err-clause-takes
returns-in-Err-clause-takes g c =
    magic_failed _ _ _ _ _ _ _ _ _
    (begin_opens _ _ _ _ _ _ _ (search rules)
    (search rules) c.begin.ensures.opens c.begin.ensures.begun c.version_begun-stream.ensures)
    c.in-Err.ensures.err

pub frames-init : goal.frames-init
frames-init g c = (
  _,
  none_taken _ _ _ _ _ _ _ _ _ _
      (begin_opens _ _ _ _ _ _ _ (search rules)
      (search rules) c.begin.ensures.opens c.begin.ensures.begun
      c.version_begun-stream.ensures) refl c.in-Ok.ensures.ok,
  refl,
  refl,
  refl,
)

pub frames-preserved : goal.frames-preserved
frames-preserved g c =
    let (frames, s, b, m, k) = c.frames.invariant in
    let after : Outputs = record {
      report = g.L.Report.written c.hand_on.new.report;
      sent = g.W.Write.contents c.hand_on.new.out;
    } in
    let s = after_flush _ _ _ _ _ _ _ _ _ _ _ after s c.hand_on.ensures.report
    c.hand_on.ensures.out in (
      _,
      one_taken _ _ _ _ _ frames _ _ _ _ _ _ _ s _ c.in-Frame.ensures.finds _ _
          (rw (← b) c.in-Ok-take_frame.ensures.writes)
          (rw (← b) c.in-Ok-take_frame.ensures.contents),
      search rules,
      search rules,
      noted_more _ _ _ _ _ frames _ _ _ _ _ _ m k s.numbered s.carried
          c.in-Ok-take_frame.ensures.noted,
    )

pub returns-in-Err-take_frame-clause-takes : goal.returns-in-Err-take_frame-clause-takes
returns-in-Err-take_frame-clause-takes g c =
    let (frames, s, b, m, k) = c.frames.invariant in
    let after : Outputs = record {
      report = g.L.Report.written c.hand_on.new.report;
      sent = g.W.Write.contents c.hand_on.new.out;
    } in
    let s = after_flush _ _ _ _ _ _ _ _ _ _ _ after s c.hand_on.ensures.report
    c.hand_on.ensures.out in
    one_failed _ _ _ _ _ _ c.requires.limit c.requires.program _ frames _ _ _ _ _ _ _ _ _ _ _ s
    c.in-Frame.ensures.finds
    (rw (← b) c.in-Err-take_frame.ensures.writes)
    (has_taken _ _ _ _ _ _ (c.in-Err-take_frame.ensures.bounded ∙ b)
    (c.in-Err-take_frame.ensures.notes ∙ m)
    (carried_more _ _ frames _ _ _ s.carried (rw (← b) c.in-Err-take_frame.ensures.contents))
    (noted_more _ _ _ _ _ frames _ _ _ _ _ _ m k s.numbered s.carried
    c.in-Err-take_frame.ensures.noted))

pub returns-in-End-clause-takes : goal.returns-in-End-clause-takes
returns-in-End-clause-takes g c =
    let (frames, s, b, m, k) = c.frames.invariant in
    let after : Outputs = record {
      report = g.L.Report.written c.hand_on.new.report;
      sent = g.W.Write.contents c.hand_on.new.out;
    } in
    let s = after_flush _ _ _ _ _ _ _ _ _ _ _ after s c.hand_on.ensures.report
    c.hand_on.ensures.out in
    all_taken _ _ _ _ _ _ c.requires.limit c.requires.program _ frames _ _ _ _ _ _ _ _ _ _ s
    c.in-End.ensures.finds refl (has_taken _ _ _ _ _ _ b m s.carried k)

pub returns-in-Fault-clause-takes : goal.returns-in-Fault-clause-takes
returns-in-Fault-clause-takes g c =
    let (frames, s, b, m, k) = c.frames.invariant in
    let after : Outputs = record {
      report = g.L.Report.written c.hand_on.new.report;
      sent = g.W.Write.contents c.hand_on.new.out;
    } in
    let s = after_flush _ _ _ _ _ _ _ _ _ _ _ after s c.hand_on.ensures.report
    c.hand_on.ensures.out in
    all_taken _ _ _ _ _ _ c.requires.limit c.requires.program _ frames _ _ _ _ _ _ _ _ _ _ s
    c.in-Fault.ensures.finds refl (has_taken _ _ _ _ _ _ b m s.carried k)
