use Rattle.std.proofs.Common.{arith}
use Rattle.state_index.proofs.PartLaws.{register_parts-more, register_parts-all}
use Rattle.state_index.proofs.parts.push_registers.Goals as goal

pub loop-index-preserved : goal.loop-index-preserved
loop-index-preserved c =
    register_parts-more c.loop-index.parts.items c.push_register.new.parts.items _
    c.args.registers.now c.loop-index.index c.index-registers-index.result
    (omega arith) c.in_ok-push_register.ensures c.loop-index.invariant

pub returns-clause-pushed : goal.returns-clause-pushed
returns-clause-pushed c =
    register_parts-all c.loop-index.parts.items _ c.args.registers.now c.loop-index.index
    (omega arith) c.loop-index.invariant
