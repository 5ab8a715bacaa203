use Rattle.std.proofs.Common.{arith}
use Rattle.live_maps.proofs.PlaceOrderLaws.{taken_all, places_of}
use Rattle.live_maps.proofs.serials.take_away.Goals as goal

pub take-requires : goal.take-requires
take-requires c =
    let vector = c.args.all.now.ok.0 in
    let index = c.requires.index in
    let place = c.requires.place in
    let long = places_of c.args.all.now.items c.args.index c.index_mut.result.now _ (omega arith)
    c.index_mut.ensures.value in
    omega arith

pub returns-clause-taken : goal.returns-clause-taken
returns-clause-taken c =
    let vector = c.args.all.now.ok.0 in
    let index = c.requires.index in
    taken_all c.args.all.now.items c.args.index c.index_mut.result.now _ c.take.new.self
    c.args.place (omega arith) c.index_mut.ensures.value c.requires.fresh c.take.ensures
