use Rattle.checked_vm.proofs.Common.{FitsSigned, w64, rules, to_z-of_z, state_of}
use Rattle.checked_vm.proofs.Bytes.{bytes_at_part}
use Rattle.checked_vm.proofs.core_state.Core.read_argument.Goals as goal

pub returns-in_ok-read_packet-in-Packet-clause-read : goal.returns-in_ok-read_packet-in-Packet-clause-read
returns-in_ok-read_packet-in-Packet-clause-read c =
    let fits : FitsSigned w64 c.args.offset = search rules in
    let index = simp to_z-of_z at c.index_of_pointer-at.ensures in
    bytes_at_part (state_of c.args.self.now c.args.packet.now) c.args.region _ c.args.offset _ _ _ _
    c.in-Packet.is index
    c.in_ok-read_packet-in-Packet.ensures.read c.copy_from_slice.ensures.after

pub returns-in_ok-read_map_value-in-MapValue-clause-read
    : goal.returns-in_ok-read_map_value-in-MapValue-clause-read
returns-in_ok-read_map_value-in-MapValue-clause-read c =
    let fits : FitsSigned w64 c.args.offset = search rules in
    let index = simp to_z-of_z at c.index_of_pointer-at.ensures in
    bytes_at_part (state_of c.args.self.now c.args.packet.now) c.args.region _ c.args.offset _ _ _ _
    c.in-MapValue.is index
    (c.in_ok-read_map_value-in-MapValue.ensures.read c.args.packet.now)
    c.copy_from_slice-in-MapValue.ensures.after
