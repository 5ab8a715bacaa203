use Rattle.transfer.proofs.Common.{◌∙◌, w16, w32, ap, subst, FitsSigned, to_z-of_z, size_bytes, AreInPacket}
use Rattle.transfer.proofs.packets.packet_load_signed.Goals as goal

pub returns-then-are_in_packet : goal.returns-then-are_in_packet
returns-then-are_in_packet c =
    let fixed : FitsSigned w32 c.args.fixed = c.ranges.fixed in
    let least : FitsSigned w32 c.args.least = c.ranges.least in
    let offset : FitsSigned w16 c.args.offset = c.ranges.offset in
    let inside = simp to_z-of_z at (c.are_in_packet.ensures.0 c.if-are_in_packet.true) in (
      subst (AreInPacket c.args.fixed c.args.least c.args.proved c.args.offset)
          (c.bytes.ensures.value ∙ ap size_bytes c.unsigned_size.ensures) inside,
      c.of_signed_size.ensures,
    )
