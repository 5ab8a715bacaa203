use Rattle.std.proofs.Common.{arith}
use Rattle.live_maps.proofs.PlaceOrderLaws.{given_all, places_of}
use Rattle.live_maps.proofs.serials.give_serial.Goals as goal

pub give-requires : goal.give-requires
give-requires c =
    let vector = c.args.all.now.ok.0 in
    let index = c.requires.index in
    let place = c.requires.place in
    let long = places_of c.args.all.now.items c.args.index c.index_mut.result.now _ (omega arith)
    c.index_mut.ensures.value in
    omega arith

pub returns-clause-given : goal.returns-clause-given
returns-clause-given c =
    let vector = c.args.all.now.ok.0 in
    let index = c.requires.index in
    given_all c.args.all.now.items c.args.index c.index_mut.result.now _ c.give.new.self
    c.args.place c.args.serial (omega arith) c.index_mut.ensures.value c.give.ensures
