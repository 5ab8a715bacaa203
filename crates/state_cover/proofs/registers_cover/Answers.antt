use Rattle.state_cover.proofs.Common.{arith, packet_name, null_name}
use Rattle.state_cover.proofs.Inclusion.{KindsCover-from}
use Rattle.state_cover.proofs.registers_cover.Goals as goal

pub returns-clause-yes : goal.returns-clause-yes
returns-clause-yes c = λ _.
    KindsCover-from (packet_name c.args.a.now c.args.b.now)
    (null_name c.args.a.now c.args.b.now) c.args.left.now c.args.right.now c.loop-index.index
    (omega arith) c.loop-index.invariant
