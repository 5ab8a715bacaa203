use Rattle.walks.proofs.Common.{InRegister, InSlot, IsSlotLive, HasRegister, HasSlot, IsNumberTested}
use Rattle.walks.proofs.NumberLoops.{ForgetsNumbersBeside-same, ForgetsNumbersIn-same, chosen_of_tested}
use Rattle.walks.proofs.numbers.forget_untested.Goals as goal

pub returns-clause-registers : goal.returns-clause-registers
returns-clause-registers c = λ may.
    ForgetsNumbersBeside-same (HasRegister c.tested.result)
    (λ r. IsNumberTested c.args.flow.now (InRegister r) c.args.slot) c.args.registers.now _
    (c.tested.ensures may) c.forget_registers_beside.ensures

pub returns-clause-slots : goal.returns-clause-slots
returns-clause-slots c = λ may.
    let p = c.args.flow.now in
    let slot = c.args.slot in
    ForgetsNumbersIn-same (HasSlot c.without.result)
    (λ j. IsSlotLive p j slot × (IsNumberTested p (InSlot j) slot → ⊥)) c.args.stack.now.slots _
    (chosen_of_tested p slot c.live_slots.result c.tested_slots.result c.without.result
    c.live_slots.ensures (c.tested_slots.ensures may) c.without.ensures)
    c.forget_slots_of.ensures
