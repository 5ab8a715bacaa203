use Rattle.maps.proofs.MapLaws.{rows_of-starting}
use Rattle.run_tests.proofs.tests.streams.counts.counts_verified.Goals as goal

pub run_counted_from-ended-requires : goal.run_counted_from-ended-requires
run_counted_from-ended-requires c =
    rw (c.in-Ok.ensures, c.image.ensures.program) (rows_of-starting c.args.program.program.maps)
