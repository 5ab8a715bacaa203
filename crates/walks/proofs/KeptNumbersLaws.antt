-- What is forgotten where only some numbers are kept, and what is known then.
use Rattle.walks.proofs.Common.{◌<◌, ℕ, List, refl, sym, subst, inl, inr, reg_number, Program, Reg, Kind, StackSlot, State, slot_at, kind_at, registers_of, SlotMask, HasRegister, HasSlot, IsJoin, HasInput, slots_in, Coarse, IsKept, IsSlotKept, DeadForgotten, Forgets, KnowsNumbersOf, KeepsNumbersOf, ForgetsNumbersBeside, ForgetsNumbersIn}
use Rattle.control_flow.specs.declared.masks.RegisterMask.{RegisterMask}
use Rattle.walks.proofs.NumberLoops.{AreNumbersKept-beside, AreSpilledNumbersKept-in, any_left, none_left, with_frame}

-- what is dead is forgotten, and then all numbers but those that are kept
pub forgets_beside : (p : Program) (a m : State) (Kept : Reg → Type 0) (Chosen : ℕ → Type 0)
    (ks : List Kind) (slots : List StackSlot) → HasInput p → IsJoin p m.slot
    → DeadForgotten p a m → ForgetsNumbersBeside Kept (registers_of m) ks
    → ForgetsNumbersIn Chosen (slots_in m) slots → Forgets Coarse p a (with_frame m ks slots)
forgets_beside p a m Kept Chosen ks slots may join dead registers own = record {
  middle = m;
  dead = dead;
  numbers = record {
    rest = refl;
    registers = AreNumbersKept-beside p m Kept ks (λ r free. (may, join, tt)) registers;
    slots = AreSpilledNumbersKept-in p m Chosen slots (λ j chosen. (may, join, tt)) own;
  };
}

-- none is known but those
pub knows_beside : (p : Program) (m : State) (kept : RegisterMask) (kept_slots : SlotMask)
    (Chosen : ℕ → Type 0) (ks : List Kind) (slots : List StackSlot)
    → ((j : ℕ) → j < 64 → (HasSlot kept_slots j → ⊥) → Chosen j)
    → ForgetsNumbersBeside (HasRegister kept) (registers_of m) ks
    → ForgetsNumbersIn Chosen (slots_in m) slots
    → KnowsNumbersOf kept kept_slots p (with_frame m ks slots)
knows_beside p m kept kept_slots Chosen ks slots chosen registers own = λ may join. (
  any_left (HasRegister kept) (registers_of m) ks registers,
  λ j below free. none_left Chosen (slots_in m) slots own j below (chosen j below free),
)

-- and those are known as before, but for what is dead
pub keeps_beside : (p : Program) (a m : State) (kept : RegisterMask) (kept_slots : SlotMask)
    (Chosen : ℕ → Type 0) (ks : List Kind) (slots : List StackSlot)
    → ((j : ℕ) → Chosen j → HasSlot kept_slots j → ⊥) → DeadForgotten p a m
    → ForgetsNumbersBeside (HasRegister kept) (registers_of m) ks
    → ForgetsNumbersIn Chosen (slots_in m) slots
    → KeepsNumbersOf kept kept_slots p a (with_frame m ks slots)
keeps_beside p a m kept kept_slots Chosen ks slots apart dead registers own = (
  λ r other has. elim (registers.each r other) [
    | inl same ↦
        subst (IsKept p a.slot r (kind_at (registers_of a) (reg_number r))) (sym same.1)
        (dead.registers.each r other)
    | inr gone ↦ absurd (gone.0 has)
  ],
  λ j below has. elim (own.each j below) [
    | inl gone ↦ absurd (apart j gone.0 has)
    | inr same ↦
        subst (IsSlotKept p a.slot j (slot_at (slots_in a) j)) (sym same.1)
        (dead.slots.each j below)
  ],
)

pub keeps_dead : (p : Program) (a b : State) (kept : RegisterMask) (kept_slots : SlotMask)
    → DeadForgotten p a b → KeepsNumbersOf kept kept_slots p a b
keeps_dead p a b kept kept_slots dead =
    (λ r other has. dead.registers.each r other, λ j below has. dead.slots.each j below)
