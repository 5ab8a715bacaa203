use Rattle.std.proofs.Common.{arith}
use Rattle.live_maps.proofs.PlaceOrderLaws.{places_of}
use Rattle.live_maps.proofs.serials.serial_at.Goals as goal

pub at-requires-clause-inside : goal.at-requires-clause-inside
at-requires-clause-inside c =
    let vector = c.args.all.now.ok.0 in
    let index = c.requires.index in
    let place = c.requires.place in
    let long = places_of c.args.all.now.items c.args.index c.index.result.now _ (omega arith)
    c.index.ensures in
    omega arith
