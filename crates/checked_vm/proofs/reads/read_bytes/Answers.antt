use Rattle.checked_vm.proofs.Bytes.{read_packet_part}
use Rattle.checked_vm.proofs.reads.read_bytes.Goals as goal

pub returns-in-Some-clause-read : goal.returns-in-Some-clause-read
returns-in-Some-clause-read c = rw c.in-Some.is (read_packet_part _ _ _ c.if-i-n.true)
