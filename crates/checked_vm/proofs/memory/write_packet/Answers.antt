use Rattle.checked_vm.proofs.Bytes.{write_packet_part}
use Rattle.checked_vm.proofs.memory.write_packet.Goals as goal

pub returns-in-Some : goal.returns-in-Some
returns-in-Some c =
    λ core. rw c.in-Some.is
    (write_packet_part _ _ _ _ core c.copy_from_slice.ensures.after c.if-i-new.true)
