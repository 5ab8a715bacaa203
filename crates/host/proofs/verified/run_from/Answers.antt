use Rattle.host.proofs.Common.{List, subst, ap, ◌∙◌, rules, MapDef, FitRows, IsProgram-IsImage, Bounded, Running, contents_of, FitRows-IsMap, bounded_of, nothing_noted, ShowsLast}
use Rattle.host.proofs.Accepted.{ran_whole, ran_front}
use Rattle.host.proofs.Machines.{shows}
use Rattle.host.proofs.verified.run_from.Goals as goal

pub returns-in-Ok-run_frames-clause-reports : goal.returns-in-Ok-run_frames-clause-reports
returns-in-Ok-run_frames-clause-reports g c = λ wrote.
    let a = c.args.verified in
    let v = c.bound-bound.ensures.verified in
    let contents = contents_of c.args.maps in
    let fits = subst (λ (rows : List MapDef). FitRows rows contents) c.requires
    (FitRows-IsMap c.args.maps c.say_fits.ensures) in
    let t = c.in-Ok-run_frames.ensures.takes in
    let same = ap bounded_of c.in-Ok.ensures.made in
    (ran_whole _ _ a contents _ (ShowsLast a.program) _ _ _ _ _ _ _ _ _
    (IsProgram-IsImage a.program v.image) v.ends fits v.some v.most same
    (ap (λ (m : Running). m.contents) c.in-Ok.ensures.made) t (c.end_report.ensures.writes _)
    c.into_maps.ensures.rows c.into_maps.ensures.contents
    (λ last held. shows _ _ _ _ _ _ _ t _ _ nothing_noted a.program.maps last _
    c.end_report.ensures.tally c.end_report.ensures.stops c.end_report.ensures.maps (search rules)
    (c.into_maps.ensures.rows ∙ ap (λ (b : Bounded). b.program.maps) (t.taken.bounded ∙ same))
    (c.into_maps.ensures.contents ∙ held))).0

pub returns-in-Err-clause-reports : goal.returns-in-Err-clause-reports
returns-in-Err-clause-reports g c = λ wrote.
    let a = c.args.verified in
    let v = c.bound-bound.ensures.verified in
    let contents = contents_of c.args.maps in
    let fits = subst (λ (rows : List MapDef). FitRows rows contents) c.requires
    (FitRows-IsMap c.args.maps c.say_fits.ensures) in
    (ran_front _ _ a contents _ (ShowsLast a.program) _ _ _ _ _
    (IsProgram-IsImage a.program v.image) v.ends fits v.some v.most
    (ap bounded_of c.in-Ok.ensures.made)
    (ap (λ (m : Running). m.contents) c.in-Ok.ensures.made) c.in-Err.ensures.takes).0
