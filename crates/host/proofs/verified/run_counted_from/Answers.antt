use Rattle.host.proofs.Common.{List, Ok, Err, subst, ap, ◌∙◌, rules, MapDef, Program, version_number, FitRows, IsProgram-IsImage, Bounded, Running, contents_of, FitRows-IsMap, bounded_of, nothing_noted, no_notes, Totals, ShowsCounted}
use Rattle.host.proofs.Accepted.{ran_whole, ran_front}
use Rattle.host.proofs.Machines.{shows, counts_shown}
use Rattle.host.proofs.verified.run_counted_from.Goals as goal

pub returns-in-Ok-end_report-clause-reports : goal.returns-in-Ok-end_report-clause-reports
returns-in-Ok-end_report-clause-reports g c = λ wrote.
    let a = c.args.verified in
    let v = c.bound-bound.ensures.verified in
    let contents = contents_of c.args.maps in
    let fits = subst (λ (rows : List MapDef). FitRows rows contents) c.requires
    (FitRows-IsMap c.args.maps c.say_fits.ensures) in
    let t = c.in-Ok-run_frames.ensures.takes in
    let same = ap bounded_of c.in-Ok.ensures.made in
    let start = ap (λ (m : Running). m.contents) c.in-Ok.ensures.made in
    let version = c.version_of-program_version.ensures _
    (c.version.ensures ∙ ap (λ (p : Program). version_number p.version) c.image.ensures.program) in
    (ran_whole _ _ a contents _ (ShowsCounted a contents) _ _ _ _ _ _ _ _ _
    (IsProgram-IsImage a.program v.image) v.ends fits v.some v.most same start t
    (c.in-Ok-end_report.ensures.writes _) c.into_maps.ensures.rows c.into_maps.ensures.contents
    (λ last held. (
      shows _ _ _ _ _ _ _ t _ _ nothing_noted a.program.maps last (Ok c.in-Ok-end_report.traced)
          c.in-Ok-end_report.ensures.tally c.in-Ok-end_report.ensures.stops
          c.in-Ok-end_report.ensures.maps (search rules)
          (c.into_maps.ensures.rows ∙ ap (λ (b : Bounded). b.program.maps) (t.taken.bounded ∙ same))
          (c.into_maps.ensures.contents ∙ held),
      ap (λ (x : Unit {0} × Totals). x.1)
          (counts_shown (Unit {0}) a _ contents _ no_notes _ tt tt _ _ t.found.frames version same
          start (search rules) t.taken.noted),
    ))).0

pub returns-in-Err-end_report-clause-reports : goal.returns-in-Err-end_report-clause-reports
returns-in-Err-end_report-clause-reports g c = λ wrote.
    let a = c.args.verified in
    let v = c.bound-bound.ensures.verified in
    let contents = contents_of c.args.maps in
    let fits = subst (λ (rows : List MapDef). FitRows rows contents) c.requires
    (FitRows-IsMap c.args.maps c.say_fits.ensures) in
    (ran_whole _ _ a contents _ (ShowsCounted a contents) _ _ _ _ _ _
    (Err c.in-Err-end_report.error) _ _
    (IsProgram-IsImage a.program v.image) v.ends fits v.some v.most
    (ap bounded_of c.in-Ok.ensures.made)
    (ap (λ (m : Running). m.contents) c.in-Ok.ensures.made) c.in-Ok-run_frames.ensures.takes
    (c.in-Err-end_report.ensures.writes _) c.into_maps.ensures.rows c.into_maps.ensures.contents
    (λ last held. tt)).0

pub returns-in-Err-clause-reports : goal.returns-in-Err-clause-reports
returns-in-Err-clause-reports g c = λ wrote.
    let a = c.args.verified in
    let v = c.bound-bound.ensures.verified in
    let contents = contents_of c.args.maps in
    let fits = subst (λ (rows : List MapDef). FitRows rows contents) c.requires
    (FitRows-IsMap c.args.maps c.say_fits.ensures) in
    (ran_front _ _ a contents _ (ShowsCounted a contents) _ _ _ _ _
    (IsProgram-IsImage a.program v.image) v.ends fits v.some v.most
    (ap bounded_of c.in-Ok.ensures.made)
    (ap (λ (m : Running). m.contents) c.in-Ok.ensures.made) c.in-Err.ensures.takes).0
