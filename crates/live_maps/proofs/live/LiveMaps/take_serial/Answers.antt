use Rattle.live_maps.proofs.Common.{◌+◌, arith, serials_in}
use Rattle.live_maps.proofs.LiveLaws.{AreLive-more}
use Rattle.live_maps.proofs.live.LiveMaps.take_serial.Goals as goal

pub invariant_of-self : goal.invariant_of-self
invariant_of-self c =
    let i = c.self.inside in
    let inv = c.self.invariant in
    let live = AreLive-more i.next (i.next + 1) i.maps (serials_in i.serials.items) (omega arith) inv.2 in
    (inv.0, inv.1, live, inv.3)
