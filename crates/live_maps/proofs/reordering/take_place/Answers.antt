use Rattle.std.proofs.Common.{sym, ◌∙◌}
use Rattle.live_maps.proofs.PlaceLists.{removed_at, none_without}
use Rattle.live_maps.proofs.reordering.take_place.Goals as goal

pub returns-in-Some-clause-places : goal.returns-in-Some-clause-places
returns-in-Some-clause-places c =
    c.remove.ensures.places
    ∙ removed_at c.args.ranks.now.places c.in-Some.rank c.args.place c.requires
    c.in-Some.ensures.found

pub returns-in_default-clause-places : goal.returns-in_default-clause-places
returns-in_default-clause-places c =
    sym (none_without c.args.ranks.now.places c.args.place c.in_default.ensures.none)
