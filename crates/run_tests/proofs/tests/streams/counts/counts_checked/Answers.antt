use Rattle.std.proofs.Common.{ap, ◌∙◌}
use Rattle.maps.specs.Maps.{rows_of}
use Rattle.maps.proofs.MapLaws.{rows_of-starting}
use Rattle.run_tests.proofs.tests.streams.counts.counts_checked.Goals as goal

pub run_checked_counted_from-ended-requires-clause-rows
    : goal.run_checked_counted_from-ended-requires-clause-rows
run_checked_counted_from-ended-requires-clause-rows c =
    ap rows_of c.in-Ok.ensures ∙ rows_of-starting c.args.image.maps
