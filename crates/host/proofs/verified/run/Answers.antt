use Rattle.host.proofs.Common.{◌≡◌, sym, ap, ◌∙◌, starting_contents, contents_of, rows_of-starting, contents_of-starting, tallied}
use Rattle.host.proofs.Accepted.{ReportsRun-tallied, tallied-memory}
use Rattle.host.proofs.verified.run.Goals as goal

pub run_from-requires : goal.run_from-requires
run_from-requires g c =
    rw (c.in-Ok.ensures, c.image.ensures.program) (rows_of-starting c.args.verified.program.maps)

pub returns-clause-report_untouched : goal.returns-clause-report_untouched
returns-clause-report_untouched g c = λ e.
    c.run_from.ensures.report_untouched (tallied-memory _ (sym c.tally_in.ensures ∙ e))

pub returns-clause-out_untouched : goal.returns-clause-out_untouched
returns-clause-out_untouched g c = λ e.
    c.run_from.ensures.out_untouched (tallied-memory _ (sym c.tally_in.ensures ∙ e))

pub returns-clause-reports : goal.returns-clause-reports
returns-clause-reports g c = λ wrote.
    let start : contents_of c.in-Ok.maps ≡ starting_contents c.args.verified.program.maps =
    rw (c.in-Ok.ensures, c.image.ensures.program)
    (contents_of-starting c.args.verified.program.maps) in
    rw c.tally_in.ensures
    (ReportsRun-tallied c.args.verified _ _ _ _ c.run_from.result start
    (c.run_from.ensures.reports (λ e. wrote (c.tally_in.ensures ∙ ap tallied e))))
