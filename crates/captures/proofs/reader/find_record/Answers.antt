use Rattle.captures.proofs.Common.{[], ◌∷◌, take, Ok, refl, sym, ap, ◌∙◌, arith, length-take-le, record_size, record_said, FoundPacket, Unread}
use Rattle.captures.specs.Packets.{framed_packet, said_with}
use Rattle.captures.proofs.FindingLaws.{finds_end, finds_fault, finds_said, was_record, was_stopped, was_unread}
use Rattle.captures.proofs.reader.find_record.Goals as goal

pub take_record-requires-clause-room : goal.take_record-requires-clause-room
take_record-requires-clause-room g c =
    let told = was_record c.args.format [] c.args.offset _ _ _
    (c.gather-gathered.ensures.gathered []) c.in-Record.size c.in-Record.is in
    let long = length-take-le _ _ c.gather-gathered.ensures.inside in
    omega (arith, told.1, long, c.gather-gathered.ensures.inside)

pub take_record-requires-clause-size : goal.take_record-requires-clause-size
take_record-requires-clause-size g c =
    let block = c.gather-gathered.new.block in
    let told = was_record c.args.format [] c.args.offset _ _ _
    (c.gather-gathered.ensures.gathered []) c.in-Record.size c.in-Record.is in
    let long = length-take-le _ _ c.gather-gathered.ensures.inside in
    ap (λ n. record_size c.args.format (take n block)) (sym told.1 ∙ long) ∙ told.0

pub returns-in-Ok-Packet-clause-finds : goal.returns-in-Ok-Packet-clause-finds
returns-in-Ok-Packet-clause-finds g c =
    let format = c.args.format in
    let block = c.gather-gathered.new.block in
    let count = c.gather-gathered.result.1 in
    let size = c.in-Record.size in
    let told = was_record format [] c.args.offset _ _ _ (c.gather-gathered.ensures.gathered [])
    size c.in-Record.is in
    let long = length-take-le count block c.gather-gathered.ensures.inside in
    finds_said format c.args.interfaces.now c.args.offset _ _ _ (take count block)
    c.gather-gathered.ensures.bytes size (record {
      format = format;
      interfaces = c.take_record.new.interfaces;
      packets = framed_packet c.take_record.new.block c.in-Ok-Packet.packet ∷ [];
    }) (FoundPacket (framed_packet c.take_record.new.block c.in-Ok-Packet.packet)) told.0 told.1
    (ap (λ n. record_said format c.args.interfaces.now (take n block)) (sym long ∙ told.1)
    ∙ sym c.take_record.ensures.said
    ∙ ap (said_with format c.take_record.new.interfaces c.take_record.new.block)
    (c.in-Ok-Packet.is ∙ ap (λ r. Ok r) c.in-Ok-Packet.field-0-is))
    (λ later. refl)

pub returns-in-Ok-Passed-clause-finds : goal.returns-in-Ok-Passed-clause-finds
returns-in-Ok-Passed-clause-finds g c =
    let format = c.args.format in
    let block = c.gather-gathered.new.block in
    let count = c.gather-gathered.result.1 in
    let size = c.in-Record.size in
    let told = was_record format [] c.args.offset _ _ _ (c.gather-gathered.ensures.gathered [])
    size c.in-Record.is in
    let long = length-take-le count block c.gather-gathered.ensures.inside in
    finds_said format c.args.interfaces.now c.args.offset _ _ _ (take count block)
    c.gather-gathered.ensures.bytes size (record {
      format = c.in-Ok-Passed.after;
      interfaces = c.take_record.new.interfaces;
      packets = [];
    }) Unread told.0 told.1
    (ap (λ n. record_said format c.args.interfaces.now (take n block)) (sym long ∙ told.1)
    ∙ sym c.take_record.ensures.said
    ∙ ap (said_with format c.take_record.new.interfaces c.take_record.new.block)
    (c.in-Ok-Passed.is ∙ ap (λ r. Ok r) c.in-Ok-Passed.field-0-is))
    (λ later. refl)

pub returns-in-Err-clause-finds : goal.returns-in-Err-clause-finds
returns-in-Err-clause-finds g c =
    let format = c.args.format in
    let block = c.gather-gathered.new.block in
    let count = c.gather-gathered.result.1 in
    let size = c.in-Record.size in
    let told = was_record format [] c.args.offset _ _ _ (c.gather-gathered.ensures.gathered [])
    size c.in-Record.is in
    let long = length-take-le count block c.gather-gathered.ensures.inside in
    finds_fault format c.args.interfaces.now c.args.offset _ _ _ (take count block)
    c.gather-gathered.ensures.bytes _ size c.in-Err.fault told.0 told.1
    (ap (λ n. record_said format c.args.interfaces.now (take n block)) (sym long ∙ told.1)
    ∙ sym c.take_record.ensures.said
    ∙ ap (said_with format c.take_record.new.interfaces c.take_record.new.block) c.in-Err.is)

pub returns-in-Stopped-clause-finds : goal.returns-in-Stopped-clause-finds
returns-in-Stopped-clause-finds g c =
    finds_end c.args.format c.args.interfaces.now c.args.offset _ _ _ _
    c.gather-gathered.ensures.bytes _ c.in-Stopped.end
    (was_stopped c.args.format c.args.interfaces.now c.args.offset _ _ _
    (c.gather-gathered.ensures.gathered c.args.interfaces.now) c.in-Stopped.end c.in-Stopped.is)

pub returns-in-Failed-clause-part : goal.returns-in-Failed-clause-part
returns-in-Failed-clause-part g c =
    was_unread c.args.format [] c.args.offset _ _ _ (c.gather-gathered.ensures.gathered [])
    c.in-Failed.is
