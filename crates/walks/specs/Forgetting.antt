-- What is forgotten of a state when a path reaches it: at joins, the registers and stack slots of
-- the innermost call frame that no path reads before it writes them, and there may also be
-- forgotten numbers that do not matter. What is known of a stack slot of a caller may be forgotten
-- too, if no path reads it from where the caller goes on.
use Rattle.std.specs.Prelude.{◌≡◌, ◌≢◌, ◌⊎◌, ℕ, ◌+◌, ◌<◌, List, length}
use Rattle.isa_model.specs.declared.registers.Reg.{Reg}
use Rattle.isa_model.specs.declared.registers.Reg.TheVariants.{R10}
use Rattle.isa_model.specs.Code.Registers.{reg_number}
use Rattle.isa_model.specs.Code.Instructions.{Program}
use Rattle.reg_state.specs.declared.kinds.Kind.{Kind}
use Rattle.reg_state.specs.declared.kinds.Kind.TheVariants.{Unset}
use Rattle.stack_state.specs.declared.slots.StackSlot.{StackSlot}
use Rattle.stack_state.specs.declared.slots.StackSlot.TheVariants.{Written}
use Rattle.stack_state.specs.declared.states.AbstractFrame.{AbstractFrame}
use Rattle.stack_state.specs.declared.states.State.{State}
use Rattle.stack_state.specs.Slots.{slot_at, kind_in, IsAnyNumber}
use Rattle.stack_state.specs.Meaning.{abstract_frame_at, registers_of, kind_at}
use Rattle.branch_refine.specs.Refining.{IsNumberKind}
use Rattle.control_flow.specs.declared.masks.RegisterMask.{RegisterMask}
use Rattle.control_flow.specs.declared.slot_masks.SlotMask.{SlotMask}
use Rattle.control_flow.specs.Masks.{HasRegister, HasSlot}
use Rattle.control_flow.specs.Flows.{IsJoin}
use Rattle.control_flow.specs.Liveness.{Home, InRegister, InSlot, IsLive, IsSlotLive}
use Rattle.control_flow.specs.TestedNumbers.{HasInput, MayForgetNumbers, IsNumberTested}
use Rattle.control_flow.specs.Endings.{EndsPlainly}

-- the slot is a join at which the register is dead
abbrev pub IsDeadAt : Program → ℕ → Reg → Type 0
IsDeadAt p slot r = IsJoin p slot × (¬ IsLive p r slot)

-- what is known of a register stays known, or the register is dead and unset
abbrev pub IsKept : Program → ℕ → Reg → Kind → Kind → Type 0
IsKept p slot r before after =
    ((¬ IsDeadAt p slot r) × (after ≡ before)) ⊎ (IsDeadAt p slot r × (after ≡ Unset))

-- the registers of a frame when a path reaches the slot
pub record AreKept (p : Program) (slot : ℕ) (old new : List Kind) : Type 0 where
  pub ten : length new ≡ 10
  pub each : (r : Reg) → r ≢ R10
      → IsKept p slot r (kind_at old (reg_number r)) (kind_at new (reg_number r))

-- what is known of a stack slot stays known if it is live, and nothing is if it is dead
abbrev pub IsSlotLeft : Program → ℕ → ℕ → StackSlot → StackSlot → Type 0
IsSlotLeft p slot j before after =
    (IsSlotLive p j slot × (after ≡ before)) ⊎ ((¬ IsSlotLive p j slot) × (after ≡ Written 0))

pub record AreSlotsLeft (p : Program) (slot : ℕ) (old new : List StackSlot) : Type 0 where
  pub all : length new ≡ 64
  pub each : (j : ℕ) → j < 64 → IsSlotLeft p slot j (slot_at old j) (slot_at new j)

-- the slot of the code is a join at which stack slot j is dead
abbrev pub IsSlotDeadAt : Program → ℕ → ℕ → Type 0
IsSlotDeadAt p slot j = IsJoin p slot × (¬ IsSlotLive p j slot)

-- what is known of a stack slot stays known, or it is dead and nothing is
abbrev pub IsSlotKept : Program → ℕ → ℕ → StackSlot → StackSlot → Type 0
IsSlotKept p slot j before after =
    ((¬ IsSlotDeadAt p slot j) × (after ≡ before)) ⊎ (IsSlotDeadAt p slot j × (after ≡ Written 0))

-- the stack slots of a frame when a path reaches the slot of the code
pub record AreSlotsKept (p : Program) (slot : ℕ) (old new : List StackSlot) : Type 0 where
  pub all : length new ≡ 64
  pub each : (j : ℕ) → j < 64 → IsSlotKept p slot j (slot_at old j) (slot_at new j)

abbrev pub slots_in : State → List StackSlot
slots_in s = s.innermost.stack.slots

-- what is known of a stack slot of a caller stays known; or nothing is, and it is dead where the
-- caller goes on
abbrev pub IsCallerSlotKept : Program → ℕ → ℕ → StackSlot → StackSlot → Type 0
IsCallerSlotKept p slot j before after =
    (after ≡ before) ⊎ ((¬ IsSlotLive p j slot) × (after ≡ Written 0))

-- a caller that goes on at the slot: only what is known of its dead stack slots may be forgotten
pub record IsCallerKept (p : Program) (slot : ℕ) (old new : AbstractFrame) : Type 0 where
  pub rest : new ≡ record old { stack = record { slots = new.stack.slots } }
  pub slots : (j : ℕ) → j < 64
      → IsCallerSlotKept p slot j (slot_at old.stack.slots j) (slot_at new.stack.slots j)

-- all callers; each goes on at the slot to which the frame after it returns
pub record AreCallersKept (p : Program) (a b : State) : Type 0 where
  pub as_many : length b.callers.items ≡ length a.callers.items
  pub each : (k : ℕ) → k < length a.callers.items
      → IsCallerKept p (abstract_frame_at a (k + 1)).return_slot (abstract_frame_at a k)
      (abstract_frame_at b k)

-- b is a without what is known of some dead stack slots of callers
pub record CallersForgotten (p : Program) (a b : State) : Type 0 where
  pub rest : b ≡ record a { callers = b.callers }
  pub callers : AreCallersKept p a b

-- b is a without what is known of dead registers and of dead stack slots, and of some dead stack
-- slots of callers
pub record DeadForgotten (p : Program) (a b : State) : Type 0 where
  pub rest : b ≡ record a {
    callers = b.callers;
    innermost =
        record a.innermost { registers = registers_of b; stack = record { slots = slots_in b } };
  }
  pub callers : AreCallersKept p a b
  pub registers : AreKept p a.slot (registers_of a) (registers_of b)
  pub slots : AreSlotsKept p a.slot (slots_in a) (slots_in b)

-- ---- numbers

-- all numbers may be forgotten, and nothing that follows is refused for it: only plain code
-- follows, and each register that is live is a number
pub record MayForgetAll (p : Program) (s : State) : Type 0 where
  pub may : MayForgetNumbers p
  pub join : IsJoin p s.slot
  pub ends : EndsPlainly p s.slot
  pub numbers : (r : Reg) → IsLive p r s.slot
      → (r ≢ R10) × IsNumberKind (kind_at (registers_of s) (reg_number r))

-- how much is forgotten: exact walks keep each number that a path tests, and coarse ones may forget
-- any number at a join
pub data Precision : Type 0 where
  Exact : Precision
  Coarse : Precision

-- in which programs numbers may be forgotten: coarse walks may forget those of each call frame
abbrev pub MayForgetIn : Precision → Program → Type 0
MayForgetIn Exact p = MayForgetNumbers p
MayForgetIn Coarse p = HasInput p

-- no path from the state tests the number that is there, or all numbers of the state may be
-- forgotten; in coarse walks any number may be
abbrev pub MayBeLost : Precision → Program → State → Home → Type 0
MayBeLost Exact p s h = (¬ IsNumberTested p h s.slot) ⊎ MayForgetAll p s
MayBeLost Coarse p s h = Unit {0}

-- the state is at a join, and the number that is there may be forgotten
abbrev pub MayForgetNumber : Precision → Program → State → Home → Type 0
MayForgetNumber how p s h = MayForgetIn how p × IsJoin p s.slot × MayBeLost how p s h

-- what walks of the second precision forget, those of the first may forget too
abbrev pub IsNoFiner : Precision → Precision → Type 0
IsNoFiner Coarse how = Unit {0}
IsNoFiner Exact Exact = Unit {0}
IsNoFiner Exact Coarse = ⊥

-- what is known of a register of a state stays known; or it is a number, and may be any number
abbrev pub IsNumberKept : Precision → Program → State → Reg → Kind → Kind → Type 0
IsNumberKept how p s r before after =
    (after ≡ before)
    ⊎ (MayForgetNumber how p s (InRegister r) × IsNumberKind before × IsAnyNumber after)

-- what is known of a stack slot stays known; or a number was spilled there, and it is eight bytes
-- of any number
abbrev pub IsSpilledNumberKept : Precision → Program → State → ℕ → StackSlot → StackSlot → Type 0
IsSpilledNumberKept how p s j before after =
    (after ≡ before)
    ⊎ (MayForgetNumber how p s (InSlot j) × IsNumberKind (kind_in before) × (after ≡ Written 255))

pub record AreNumbersKept (how : Precision) (p : Program) (s : State)
    (new : List Kind) : Type 0 where
  pub ten : length new ≡ 10
  pub each : (r : Reg) → r ≢ R10
      → IsNumberKept how p s r (kind_at (registers_of s) (reg_number r))
      (kind_at new (reg_number r))

pub record AreSpilledNumbersKept (how : Precision) (p : Program) (s : State)
    (new : List StackSlot) : Type 0 where
  pub all : length new ≡ 64
  pub each : (j : ℕ) → j < 64
      → IsSpilledNumberKept how p s j (slot_at (slots_in s) j) (slot_at new j)

-- b is a without some numbers of the innermost call frame that do not matter
pub record NumbersForgotten (how : Precision) (p : Program) (a b : State) : Type 0 where
  pub rest : b ≡ record a {
    innermost =
        record a.innermost { registers = registers_of b; stack = record { slots = slots_in b } };
  }
  pub registers : AreNumbersKept how p a (registers_of b)
  pub slots : AreSpilledNumbersKept how p a (slots_in b)

-- ---- both

-- b is a without what is dead, and without some numbers that do not matter
pub record Forgets (how : Precision) (p : Program) (a b : State) : Type 0 where
  pub middle : State
  pub dead : DeadForgotten p a middle
  pub numbers : NumbersForgotten how p middle b

-- no number is known there that no path tests
abbrev pub KnowsTestedNumbers : Program → State → Type 0
KnowsTestedNumbers p s =
    MayForgetNumbers p → IsJoin p s.slot
    → ((r : Reg) → r ≢ R10 → (¬ IsNumberTested p (InRegister r) s.slot)
    → IsNumberKind (kind_at (registers_of s) (reg_number r))
    → IsAnyNumber (kind_at (registers_of s) (reg_number r)))
    × ((j : ℕ) → j < 64 → (¬ IsNumberTested p (InSlot j) s.slot)
    → ¬ IsNumberKind (kind_in (slot_at (slots_in s) j)))

-- ---- all numbers

-- no number is known in the innermost call frame
abbrev pub KnowsNoNumber : State → Type 0
KnowsNoNumber s =
    ((r : Reg) → r ≢ R10 → IsNumberKind (kind_at (registers_of s) (reg_number r))
    → IsAnyNumber (kind_at (registers_of s) (reg_number r)))
    × ((j : ℕ) → j < 64 → ¬ IsNumberKind (kind_in (slot_at (slots_in s) j)))

-- ---- all numbers but those that are kept

-- at a join no number is known but in these registers and stack slots
abbrev pub KnowsNumbersOf : RegisterMask → SlotMask → Program → State → Type 0
KnowsNumbersOf registers slots p s =
    HasInput p → IsJoin p s.slot
    → ((r : Reg) → r ≢ R10 → (¬ HasRegister registers r)
    → IsNumberKind (kind_at (registers_of s) (reg_number r))
    → IsAnyNumber (kind_at (registers_of s) (reg_number r)))
    × ((j : ℕ) → j < 64 → (¬ HasSlot slots j) → ¬ IsNumberKind (kind_in (slot_at (slots_in s) j)))

-- what is known of these registers and stack slots of a stays known in b, or they are dead
abbrev pub KeepsNumbersOf : RegisterMask → SlotMask → Program → State → State → Type 0
KeepsNumbersOf registers slots p a b =
    ((r : Reg) → r ≢ R10 → HasRegister registers r
    → IsKept p a.slot r (kind_at (registers_of a) (reg_number r))
    (kind_at (registers_of b) (reg_number r)))
    × ((j : ℕ) → j < 64 → HasSlot slots j
    → IsSlotKept p a.slot j (slot_at (slots_in a) j) (slot_at (slots_in b) j))

-- ---- how numbers are forgotten

-- a number may be any number now, and all else is as before
abbrev pub ForgetsNumber : Kind → Kind → Type 0
ForgetsNumber before after =
    (IsNumberKind before × IsAnyNumber after) ⊎ ((¬ IsNumberKind before) × (after ≡ before))

-- a number that was spilled is eight bytes of any number now, and all else is as before
abbrev pub ForgetsSpilled : StackSlot → StackSlot → Type 0
ForgetsSpilled before after =
    (IsNumberKind (kind_in before) × (after ≡ Written 255))
    ⊎ ((¬ IsNumberKind (kind_in before)) × (after ≡ before))

-- what is known stays known if it is kept, and else a number is forgotten
abbrev pub ForgetsUnless : Type 0 → Kind → Kind → Type 0
ForgetsUnless kept before after =
    (kept × (after ≡ before)) ⊎ ((¬ kept) × ForgetsNumber before after)

-- if the stack slot is chosen a number is forgotten, and else what is known of it stays known
abbrev pub ForgetsIf : Type 0 → StackSlot → StackSlot → Type 0
ForgetsIf chosen before after =
    (chosen × ForgetsSpilled before after) ⊎ ((¬ chosen) × (after ≡ before))

-- the numbers in all registers but those that are kept
pub record ForgetsNumbersBeside (Kept : Reg → Type 0) (old new : List Kind) : Type 0 where
  pub ten : length new ≡ 10
  pub each : (r : Reg) → r ≢ R10
      → ForgetsUnless (Kept r) (kind_at old (reg_number r)) (kind_at new (reg_number r))

-- those in the stack slots that are chosen
pub record ForgetsNumbersIn (Chosen : ℕ → Type 0) (old new : List StackSlot) : Type 0 where
  pub all : length new ≡ 64
  pub each : (j : ℕ) → j < 64 → ForgetsIf (Chosen j) (slot_at old j) (slot_at new j)

-- each of these registers is a number; r10 is none
abbrev pub AreNumberRegisters : RegisterMask → List Kind → Type 0
AreNumberRegisters mask kinds =
    (r : Reg) → HasRegister mask r → (r ≢ R10) × IsNumberKind (kind_at kinds (reg_number r))

-- ---- stack slots that are dead

-- the state is as when a path reaches it: nothing is known of stack slots that are dead there
abbrev pub IsForgotten : Program → State → Type 0
IsForgotten p s =
    (length (slots_in s) ≡ 64)
    × ((j : ℕ) → j < 64 → IsSlotDeadAt p s.slot j → slot_at (slots_in s) j ≡ Written 0)
