use Rattle.control_flow.specs.Masks.{HasSlot}
use Rattle.walks.proofs.NumberLoops.{all_forgotten, knows_none}
use Rattle.walks.proofs.forgetting.forget_all.Goals as goal

pub returns-clause-forgets : goal.returns-clause-forgets
returns-clause-forgets c =
    all_forgotten c.args.flow.now c.args.state.now c.none.result
    c.forget_registers_beside.new.registers c.forget_slots_of.new.stack.slots (HasSlot c.all.result)
    c.requires c.forget_registers_beside.ensures c.forget_slots_of.ensures

pub returns-clause-all : goal.returns-clause-all
returns-clause-all c =
    knows_none c.args.state.now c.none.result c.forget_registers_beside.new.registers
    c.forget_slots_of.new.stack.slots (HasSlot c.all.result) c.none.ensures
    (λ j below. (c.all.ensures j).1 below) c.forget_registers_beside.ensures
    c.forget_slots_of.ensures
