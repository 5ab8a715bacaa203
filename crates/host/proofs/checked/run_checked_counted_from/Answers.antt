use Rattle.host.proofs.Common.{Ok, Err, refl, ap, ◌∙◌, Bounded, contents_after, contents_of, Noted, noted_of, nothing_noted, noted_after, checked_notes, rule_of, Totals, ShowsTracedCounted}
use Rattle.host.proofs.Reporting.{checked_whole, checked_front}
use Rattle.host.proofs.Machines.{shows, noted_shown, counts_shown, contents_left_by, bounded_by, checked_start}
use Rattle.host.proofs.checked.run_checked_counted_from.Goals as goal

pub returns-in-Ok-end_report-clause-reports : goal.returns-in-Ok-end_report-clause-reports
returns-in-Ok-end_report-clause-reports g c = λ wrote.
    let p = c.args.image in
    let contents = contents_of c.args.maps in
    let (same, start, notes) = checked_start _ _ p contents c.args.limit c.in-Ok.ensures.machine
    c.in-Ok.ensures.limit in
    let a = bounded_by p c.args.limit in
    let t = c.in-Ok-run_frames.ensures.takes in
    let version = c.version_of-program_version.ensures _ c.version.ensures in
    let both_are = counts_shown Noted a _ contents _ _ _ _ _ _ _ t.found.frames version same start
    c.new-in-Ok.ensures t.taken.noted in
    checked_whole _ _ a contents _ (ShowsTracedCounted p c.args.limit contents) _ _ _ _ _ _ _ _ _
    same start t (c.in-Ok-end_report.ensures.writes _) c.into_parts-maps.ensures.rows
    c.into_parts-maps.ensures.contents (
      shows _ _ _ _ _ _ _ t _ _
          (noted_after (checked_notes p c.args.limit) (rule_of a) nothing_noted 0 contents
          t.found.frames) p.maps (contents_after (rule_of a) contents t.found.frames)
          (Ok c.in-Ok-end_report.traced)
          c.in-Ok-end_report.ensures.tally c.in-Ok-end_report.ensures.stops
          c.in-Ok-end_report.ensures.maps
          (ap noted_of c.into_parts-maps.ensures.stops
          ∙ noted_shown Noted a a contents contents (checked_notes p c.args.limit) _ nothing_noted _
          _ t.found.frames refl refl notes c.in-Ok.ensures.stops
          (ap (λ (x : Noted × Totals). x.0) both_are))
          (c.into_parts-maps.ensures.rows
          ∙ ap (λ (b : Bounded). b.program.maps) (t.taken.bounded ∙ same))
          (c.into_parts-maps.ensures.contents
          ∙ contents_left_by a _ contents _ _ t.found.frames same start t.taken.contents),
      ap (λ (x : Noted × Totals). x.1) both_are,
    )

pub returns-in-Err-end_report-clause-reports : goal.returns-in-Err-end_report-clause-reports
returns-in-Err-end_report-clause-reports g c = λ wrote.
    let p = c.args.image in
    let contents = contents_of c.args.maps in
    let (same, start, notes) = checked_start _ _ p contents c.args.limit c.in-Ok.ensures.machine
    c.in-Ok.ensures.limit in
    checked_whole _ _ (bounded_by p c.args.limit) contents _
    (ShowsTracedCounted p c.args.limit contents) _ _ _ _ _ _ (Err c.in-Err-end_report.error) _ _
    same start c.in-Ok-run_frames.ensures.takes (c.in-Err-end_report.ensures.writes _)
    c.into_parts-maps.ensures.rows c.into_parts-maps.ensures.contents tt

pub returns-in-Err-run_frames-clause-reports : goal.returns-in-Err-run_frames-clause-reports
returns-in-Err-run_frames-clause-reports g c = λ wrote.
    let p = c.args.image in
    let contents = contents_of c.args.maps in
    let (same, start, notes) = checked_start _ _ p contents c.args.limit c.in-Ok.ensures.machine
    c.in-Ok.ensures.limit in
    checked_front _ _ (bounded_by p c.args.limit) contents _
    (ShowsTracedCounted p c.args.limit contents) _ _ _ _ _ same start
    c.in-Err-run_frames.ensures.takes
