use Rattle.host.proofs.Common.{◌≡◌, starting_contents, contents_of, rows_of-starting, contents_of-starting}
use Rattle.host.proofs.InvalidRunsLaws.{ReportsNoted-starting}
use Rattle.host.proofs.noting.run_noting_invalid.Goals as goal

pub run_noting_from-requires : goal.run_noting_from-requires
run_noting_from-requires g c =
    rw (c.in-Ok.ensures, c.image.ensures.program) (rows_of-starting c.args.verified.program.maps)

pub returns-clause-reports : goal.returns-clause-reports
returns-clause-reports g c = λ wrote.
    let start : contents_of c.in-Ok.maps ≡ starting_contents c.args.verified.program.maps =
    rw (c.in-Ok.ensures, c.image.ensures.program)
    (contents_of-starting c.args.verified.program.maps) in
    ReportsNoted-starting c.args.verified _ _ _ _ c.run_noting_from.result start
    (c.run_noting_from.ensures.reports wrote)
