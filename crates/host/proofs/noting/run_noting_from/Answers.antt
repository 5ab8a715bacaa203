use Rattle.host.proofs.Common.{List, Ok, Err, [], subst, ap, ◌∙◌, rules, MapDef, FitRows, IsProgram-IsImage, Running, contents_of, FitRows-IsMap, bounded_of}
use Rattle.host.specs.declared.invalid.InvalidFrames.{InvalidFrames}
use Rattle.host.specs.InvalidRuns.{ShowsInvalid, invalid_notes, invalid_of}
use Rattle.host.proofs.Accepted.{ran_whole, ran_front}
use Rattle.host.proofs.InvalidRunsLaws.{invalid_after}
use Rattle.host.proofs.Machines.{noted_shown, shows_tally}
use Rattle.host.proofs.noting.run_noting_from.Goals as goal

pub returns-in-Ok-end_report-clause-reports : goal.returns-in-Ok-end_report-clause-reports
returns-in-Ok-end_report-clause-reports g c = λ wrote.
    let a = c.args.verified in
    let v = c.bound-bound.ensures.verified in
    let contents = contents_of c.args.maps in
    let fits = subst (λ (rows : List MapDef). FitRows rows contents) c.requires
    (FitRows-IsMap c.args.maps c.say_fits.ensures) in
    let t = c.in-Ok-run_frames.ensures.takes in
    let same = ap bounded_of c.in-Ok.ensures.made in
    let start = ap (λ (m : Running). m.contents) c.in-Ok.ensures.made in
    (ran_whole _ _ a contents _ (ShowsInvalid a contents) _ _ _ _ _ _ _ _ _
    (IsProgram-IsImage a.program v.image) v.ends fits v.some v.most same start t
    (c.in-Ok-end_report.ensures.writes _) c.into_maps.ensures.rows c.into_maps.ensures.contents
    (λ last held. (
      shows_tally _ _ _ _ _ _ _ t (Ok c.in-Ok-end_report.traced.tally)
          c.in-Ok-end_report.ensures.tally,
      noted_shown InvalidFrames a _ contents _ (invalid_notes a) _ (invalid_of []) _ _
          t.found.frames same start (ap invalid_notes same) (search rules) t.taken.noted
          ∙ invalid_after a [] 0 contents t.found.frames,
    ))).0

pub returns-in-Err-end_report-clause-reports : goal.returns-in-Err-end_report-clause-reports
returns-in-Err-end_report-clause-reports g c = λ wrote.
    let a = c.args.verified in
    let v = c.bound-bound.ensures.verified in
    let contents = contents_of c.args.maps in
    let fits = subst (λ (rows : List MapDef). FitRows rows contents) c.requires
    (FitRows-IsMap c.args.maps c.say_fits.ensures) in
    (ran_whole _ _ a contents _ (ShowsInvalid a contents) _ _ _ _ _ _
    (Err c.in-Err-end_report.error) _ _
    (IsProgram-IsImage a.program v.image) v.ends fits v.some v.most
    (ap bounded_of c.in-Ok.ensures.made)
    (ap (λ (m : Running). m.contents) c.in-Ok.ensures.made) c.in-Ok-run_frames.ensures.takes
    (c.in-Err-end_report.ensures.writes _) c.into_maps.ensures.rows c.into_maps.ensures.contents
    (λ last held. tt)).0

pub returns-in-Err-clause-reports : goal.returns-in-Err-clause-reports
returns-in-Err-clause-reports g c = λ wrote.
    let a = c.args.verified in
    let v = c.bound-bound.ensures.verified in
    let contents = contents_of c.args.maps in
    let fits = subst (λ (rows : List MapDef). FitRows rows contents) c.requires
    (FitRows-IsMap c.args.maps c.say_fits.ensures) in
    (ran_front _ _ a contents _ (ShowsInvalid a contents) _ _ _ _ _
    (IsProgram-IsImage a.program v.image) v.ends fits v.some v.most
    (ap bounded_of c.in-Ok.ensures.made)
    (ap (λ (m : Running). m.contents) c.in-Ok.ensures.made) c.in-Err.ensures.takes).0
