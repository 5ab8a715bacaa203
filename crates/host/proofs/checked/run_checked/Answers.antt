use Rattle.host.proofs.Common.{ap, ◌∙◌, rows_of, contents_of, rows_of-starting, contents_of-starting}
use Rattle.host.proofs.Accepted.{Reports-starting}
use Rattle.host.proofs.checked.run_checked.Goals as goal

pub run_checked_from-requires-clause-rows : goal.run_checked_from-requires-clause-rows
run_checked_from-requires-clause-rows g c =
    ap rows_of c.in-Ok.ensures ∙ rows_of-starting c.args.image.maps

pub returns-clause-reports : goal.returns-clause-reports
returns-clause-reports g c = λ wrote.
    Reports-starting c.args.image _ _ _ _ _ _
    (ap contents_of c.in-Ok.ensures ∙ contents_of-starting c.args.image.maps)
    (c.run_checked_from.ensures.reports wrote)
