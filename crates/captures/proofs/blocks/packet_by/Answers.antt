use Rattle.captures.proofs.Common.{◌≡◌, ◌+◌, ◌-◌, take, drop, slice_range, sym, ap, ◌∙◌, arith, link_of, interface_of, ethernet_frame}
use Rattle.captures.proofs.PacketLaws.{packet_by-parts}
use Rattle.captures.proofs.blocks.packet_by.Goals as goal

pub returns-clause-packet : goal.returns-clause-packet
returns-clause-packet c =
    let start = c.args.place.start in
    let captured = c.args.place.captured in
    let block = c.args.block.now in
    let same : (start + captured) - start ≡ captured = omega arith in
    let bytes : slice_range block start (start + captured) ≡ take captured (drop start block) =
    ap (λ n. take n (drop start block)) same in
    packet_by-parts c.args.interface.now c.args.number c.args.time start captured
    c.args.place.original c.args.place.reason block c.in-Some.link
    (ap link_of (sym c.from.ensures) ∙ sym c.of.ensures ∙ c.in-Some.is) _ _ (omega arith)
    (c.interface_of.ensures ∙ ap (interface_of c.in-Some.link c.args.number) bytes)
    (c.settle-from.ensures.frame ∙ ap (ethernet_frame c.in-Some.link) bytes)
