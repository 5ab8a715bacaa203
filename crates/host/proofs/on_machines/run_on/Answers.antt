use Rattle.host.proofs.Common.{List, refl, sym, ap, subst, KeyValues, Running, ShowsTallied, bounded_of, Leaves}
use Rattle.host.proofs.Accepted.{ran_whole, ran_front}
use Rattle.host.proofs.Machines.{shows_tally}
use Rattle.host.proofs.on_machines.run_on.Goals as goal

pub returns-in-Ok-clause-reports : goal.returns-in-Ok-clause-reports
returns-in-Ok-clause-reports g c =
    let m = c.args.machine.now in
    let a = bounded_of m in
    let h = c.bound-bound.ensures.runs in
    let t = c.in-Ok.ensures.takes in
    let (runs, leaves) = ran_whole _ _ a m.contents _ ShowsTallied _ _ _ _ _ _ _ _ _ h.is_program
    h.ends h.fits h.some h.most refl refl t (c.end_report_on.ensures.writes _) refl refl
    (λ last held. shows_tally _ _ _ _ _ _ _ t _ c.end_report_on.ensures.tally) in (
      runs,
      subst (λ (k : List KeyValues). Leaves a m.contents k _ ShowsTallied _ _ _ runs.reports)
          (sym (ap (λ (r : Running). r.contents) c.end_report_on.ensures.stays)) leaves,
    )

pub returns-in-Err-clause-reports : goal.returns-in-Err-clause-reports
returns-in-Err-clause-reports g c =
    let m = c.args.machine.now in
    let h = c.bound-bound.ensures.runs in
    ran_front _ _ (bounded_of m) m.contents _ ShowsTallied _ _ _ _ _ h.is_program h.ends h.fits
    h.some h.most refl refl c.in-Err.ensures.takes
