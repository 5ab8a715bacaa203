use Rattle.std.proofs.Common.{arith}
use Rattle.control_flow.proofs.StackPlaces.{byte_below, whole_some}
use Rattle.control_flow.proofs.stack_accesses.slot_at.Goals as goal

pub overflow_cast-result : goal.overflow_cast-result
overflow_cast-result c =
    let below = byte_below c.args.place c.byte_of.result c.in-Some.byte c.in-Some.is
    c.byte_of.ensures in omega (arith, below)

pub returns-then-byte-eq0 : goal.returns-then-byte-eq0
returns-then-byte-eq0 c =
    whole_some c.args.place c.byte_of.result c.in-Some.byte c.in-Some.is c.byte_of.ensures
    c.if-byte-eq0.true
