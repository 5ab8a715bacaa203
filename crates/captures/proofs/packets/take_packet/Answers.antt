use Rattle.captures.proofs.Common.{sym, ap, ◌∙◌, interface_of, ethernet_frame}
use Rattle.captures.proofs.PacketLaws.{packet_bytes-whole, packet_of-parts}
use Rattle.captures.proofs.packets.take_packet.Goals as goal

pub returns-clause-packet : goal.returns-clause-packet
returns-clause-packet c =
    let form = c.args.form in
    let all = c.args.bytes.now in
    let bytes = packet_bytes-whole form all c.requires.size in
    packet_of-parts form all _ _ _ _ _ _ _ c.number_at-seconds.ensures c.number_at-fraction.ensures
    c.nanoseconds.ensures.count
    (c.interface_of-interface.ensures ∙ ap (interface_of form.link 0) (sym bytes))
    c.number_at-captured.ensures c.number_at-original.ensures
    (c.settle-from.ensures.frame ∙ ap (ethernet_frame form.link) (sym bytes))
