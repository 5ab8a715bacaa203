use Rattle.std.proofs.Common.{sym}
use Rattle.checked_vm.proofs.Bytes.{value_in_bytes}
use Rattle.checked_vm.proofs.core_state.Core.value_at_place.Goals as goal

pub returns-in_ok-read_map_value-in-MapValue : goal.returns-in_ok-read_map_value-in-MapValue
returns-in_ok-read_map_value-in-MapValue c =
    rw (c.in-MapValue.is, c.number_from-in-MapValue.ensures)
    (sym (value_in_bytes _ _ (c.in_ok-read_map_value-in-MapValue.ensures.read c.args.packet.now)))
