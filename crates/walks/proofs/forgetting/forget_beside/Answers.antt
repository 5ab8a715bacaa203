use Rattle.walks.proofs.Common.{iff_false, HasRegister, HasSlot}
use Rattle.walks.proofs.NumberLoops.{forgets_dead}
use Rattle.walks.proofs.KeptNumbersLaws.{forgets_beside, knows_beside, keeps_beside, keeps_dead}
use Rattle.walks.proofs.forgetting.forget_beside.Goals as goal
use Rattle.walks.proofs.forgetting.forget_beside.Goals.{else-takes_input-via-then-takes_input+else-is_join, else-takes_input-via-else-takes_input}

pub returns-then-is_join-clause-forgets : goal.returns-then-is_join-clause-forgets
returns-then-is_join-clause-forgets c =
    let may = c.takes_input.ensures.0 c.if-takes_input.true in
    forgets_beside c.args.flow.now c.args.state.now c.forget_dead.new.state
    (HasRegister c.args.registers) (HasSlot c.without.result)
    c.forget_registers_beside.new.registers
    c.forget_slots_of.new.stack.slots may (c.is_join.ensures.join.0 c.if-is_join.true)
    c.forget_dead.ensures.forgets c.forget_registers_beside.ensures c.forget_slots_of.ensures

pub returns-then-is_join-clause-all : goal.returns-then-is_join-clause-all
returns-then-is_join-clause-all c =
    knows_beside c.args.flow.now c.forget_dead.new.state c.args.registers c.args.slots
    (HasSlot c.without.result) c.forget_registers_beside.new.registers
    c.forget_slots_of.new.stack.slots
    (λ j below free. (c.without.ensures j).1 ((c.all.ensures j).1 below, free))
    c.forget_registers_beside.ensures c.forget_slots_of.ensures

pub returns-then-is_join-clause-keeps : goal.returns-then-is_join-clause-keeps
returns-then-is_join-clause-keeps c =
    keeps_beside c.args.flow.now c.args.state.now c.forget_dead.new.state c.args.registers
    c.args.slots (HasSlot c.without.result) c.forget_registers_beside.new.registers
    c.forget_slots_of.new.stack.slots (λ j chosen. ((c.without.ensures j).0 chosen).1)
    c.forget_dead.ensures.forgets c.forget_registers_beside.ensures c.forget_slots_of.ensures

pub returns-else-takes_input-clause-forgets : goal.returns-else-takes_input-clause-forgets
returns-else-takes_input-clause-forgets c =
    forgets_dead c.args.flow.now c.args.state.now _ c.forget_dead.ensures.forgets

pub returns-else-takes_input-clause-all : goal.returns-else-takes_input-clause-all
returns-else-takes_input-clause-all c = λ may join. elim c.else-takes_input.branch [
  | else-takes_input-via-then-takes_input+else-is_join w ↦
      absurd (iff_false w.is_join.ensures.join w.if-is_join.false join)
  | else-takes_input-via-else-takes_input w ↦
      absurd (iff_false c.takes_input.ensures w.if-takes_input.false may)
]

pub returns-else-takes_input-clause-keeps : goal.returns-else-takes_input-clause-keeps
returns-else-takes_input-clause-keeps c =
    keeps_dead c.args.flow.now c.args.state.now _ c.args.registers c.args.slots
    c.forget_dead.ensures.forgets
