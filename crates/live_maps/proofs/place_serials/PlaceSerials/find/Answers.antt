use Rattle.live_maps.proofs.Common.{◌∙◌, List, sym, ap, position, Since, PlaceOrder, is_given, serials_of}
use Rattle.live_maps.proofs.PlaceOrderLaws.{position-later}
use Rattle.live_maps.proofs.LookUpLaws.{position-once}
use Rattle.live_maps.proofs.place_serials.PlaceSerials.find.Goals as goal

pub returns-in-Some : goal.returns-in-Some
returns-in-Some c =
    sym (position-once c.args.serial c.in-Some.place (serials_of c.args.self.now) c.requires.once
    c.in-Some.ensures.found)

pub returns-in-Some-noted_place : goal.returns-in-Some-noted_place
returns-in-Some-noted_place c =
    sym (position-once c.args.serial c.in-Some-noted_place.place (serials_of c.args.self.now)
    c.requires.once c.in-Some-noted_place.ensures)

pub returns-in-None-noted_place : goal.returns-in-None-noted_place
returns-in-None-noted_place c =
    c.place_given.ensures
    ∙ ap (λ (l : List Since). position (is_given c.args.serial) l) c.as_slice.ensures.value
    ∙ ap (λ (k : PlaceOrder). position (is_given c.args.serial) k.since) c.self.view_is
    ∙ position-later c.args.self.now c.args.serial c.in-None.ensures.none
