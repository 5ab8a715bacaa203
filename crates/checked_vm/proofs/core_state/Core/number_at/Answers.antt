use Rattle.std.proofs.Common.{sym}
use Rattle.checked_vm.proofs.Bytes.{number_in_bytes}
use Rattle.checked_vm.proofs.core_state.Core.number_at.Goals as goal

pub returns-in_ok-read_packet-in-Packet : goal.returns-in_ok-read_packet-in-Packet
returns-in_ok-read_packet-in-Packet c =
    rw (c.in-Packet.is, c.number_from.ensures)
    (sym (number_in_bytes _ _ c.in_ok-read_packet-in-Packet.ensures.read))

pub returns-in_ok-read_map_value-in-MapValue : goal.returns-in_ok-read_map_value-in-MapValue
returns-in_ok-read_map_value-in-MapValue c =
    rw (c.in-MapValue.is, c.number_from-in-MapValue.ensures)
    (sym (number_in_bytes _ _ (c.in_ok-read_map_value-in-MapValue.ensures.read c.args.packet.now)))
