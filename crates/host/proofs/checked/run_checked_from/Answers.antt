use Rattle.host.proofs.Common.{ap, ◌∙◌, Bounded, contents_after, contents_of, Noted, noted_of, nothing_noted, noted_after, checked_notes, ShowsTracedFrom, rule_of}
use Rattle.host.proofs.Reporting.{checked_whole, checked_front}
use Rattle.host.proofs.Machines.{shows, noted_shown, contents_left_by, bounded_by, checked_start}
use Rattle.host.proofs.checked.run_checked_from.Goals as goal

pub returns-in-Ok-run_frames-clause-reports : goal.returns-in-Ok-run_frames-clause-reports
returns-in-Ok-run_frames-clause-reports g c = λ wrote.
    let p = c.args.image in
    let contents = contents_of c.args.maps in
    let (same, start, notes) = checked_start _ _ p contents c.args.limit c.in-Ok.ensures.machine
    c.in-Ok.ensures.limit in
    let a = bounded_by p c.args.limit in
    let t = c.in-Ok-run_frames.ensures.takes in
    checked_whole _ _ a contents _ (ShowsTracedFrom p c.args.limit contents) _ _ _ _ _ _ _ _ _ same
    start t (c.end_report.ensures.writes _) c.into_parts-maps.ensures.rows
    c.into_parts-maps.ensures.contents
    (shows _ _ _ _ _ _ _ t _ _
    (noted_after (checked_notes p c.args.limit) (rule_of a) nothing_noted 0 contents t.found.frames)
    p.maps (contents_after (rule_of a) contents t.found.frames) _ c.end_report.ensures.tally
    c.end_report.ensures.stops c.end_report.ensures.maps
    (ap noted_of c.into_parts-maps.ensures.stops
    ∙ noted_shown Noted a _ contents _ (checked_notes p c.args.limit) _ nothing_noted _ _
    t.found.frames same start notes c.in-Ok.ensures.stops t.taken.noted)
    (c.into_parts-maps.ensures.rows
    ∙ ap (λ (b : Bounded). b.program.maps) (t.taken.bounded ∙ same))
    (c.into_parts-maps.ensures.contents
    ∙ contents_left_by a _ contents _ _ t.found.frames same start t.taken.contents))

pub returns-in-Err-run_frames-clause-reports : goal.returns-in-Err-run_frames-clause-reports
returns-in-Err-run_frames-clause-reports g c = λ wrote.
    let p = c.args.image in
    let contents = contents_of c.args.maps in
    let (same, start, notes) = checked_start _ _ p contents c.args.limit c.in-Ok.ensures.machine
    c.in-Ok.ensures.limit in
    checked_front _ _ (bounded_by p c.args.limit) contents _
    (ShowsTracedFrom p c.args.limit contents) _ _ _ _ _ same start c.in-Err-run_frames.ensures.takes
