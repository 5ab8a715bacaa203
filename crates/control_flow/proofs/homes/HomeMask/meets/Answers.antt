use Rattle.std.proofs.Common.{arith}
use Rattle.control_flow.proofs.MaskLemmas.{registers_in_common, slots_in_common}
use Rattle.control_flow.proofs.homes.HomeMask.meets.Goals as goal

pub returns-then-meets : goal.returns-then-meets
returns-then-meets c =
    registers_in_common c.args.self c.args.other c.meets.result c.if-meets.true c.meets.ensures

pub returns-else-meets : goal.returns-else-meets
returns-else-meets c =
    slots_in_common c.args.self c.args.other c.meets.result c.meets-else-meets.result
    c.if-meets.false (omega arith) c.meets.ensures c.meets-else-meets.ensures
