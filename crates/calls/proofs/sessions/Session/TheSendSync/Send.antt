-- A session may be moved to another thread, since what it owns means the same to each.
use mir.Raw.{raw}
use base.Fraction.{full_share}
use base.Shift.{Keyless}
use denote.Exit.{Exit, unchanged, leaves, hidden, under}
use denote.Memory.{lone}
use Rattle.calls.proofs.Common.{Ptr, block_ptr, null_ptr, Option, None, Some, Running}
use denote.Struct.Struct.{exits_of}
use denote.Struct.Owning.{shape, fields, to}
use denote.Param.Send.{IsSend, AllSend, Quiet, owning_send, struct_send, part_keyless, sendable}
use Rattle.std.proofs.Crossing as heap
use Rattle.machine.specs.contracts.machines.Machine as machine
use Rattle.machine.proofs.machines.Machine.TheSendSync.{the_send}
use Rattle.calls.specs.Ownership.{session_owns}
use Rattle.calls.specs.contracts.sessions.Session.{the_row, the_type}

quiet : {D X : Type 0} (to : D → X) (e : Exit X) → Quiet e → Quiet (hidden (under to e))
quiet to unchanged q = λ x w. tt
quiet to (leaves L l S s r₀) q = λ d. q (to d)

owns : (held : Option Running) (p : Ptr) → Keyless (session_owns held p)
owns None p = λ _. tt
owns (Some r) (block_ptr b o) =
    λ a. (
      part_keyless machine.the_row the_send full_share r b o,
      heap.frees.frees a
          (raw (lone machine.the_row.mir)) (block_ptr b o),
    )
owns (Some r) null_ptr = λ a. (tt, heap.frees.frees a (raw (lone machine.the_row.mir)) null_ptr)

pub send : IsSend the_row
send =
    let all : AllSend (fields the_type) = (search sendable, tt) in
    owning_send the_type all (λ d. owns d.held d.at)
    (λ k. quiet (to the_type) (exits_of k (fields the_type))
    ((struct_send (shape the_type) all).leaving k))
