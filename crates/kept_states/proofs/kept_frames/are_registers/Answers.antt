use Rattle.std.proofs.Common.{arith}
use Rattle.kept_states.proofs.GroupLaws.{register_parts-next, register_parts-done}
use Rattle.kept_states.proofs.kept_frames.are_registers.Goals as goal

pub loop-index-preserved : goal.loop-index-preserved
loop-index-preserved c = λ ys left.
    c.loop-index.invariant ys
    (register_parts-next c.loop-index.rest c.is_register.new.self ys c.args.registers.now
    c.loop-index.index
    c.index-registers-index.result (omega arith)
    (c.is_register.ensures c.if-not-is_register.false) left)

pub returns-clause-same : goal.returns-clause-same
returns-clause-same c = λ yes.
    c.loop-index.invariant c.loop-index.rest
    (register_parts-done c.loop-index.rest c.args.registers.now c.loop-index.index (omega arith))
