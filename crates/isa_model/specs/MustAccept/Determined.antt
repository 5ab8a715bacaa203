-- Determined programs: their run depends on no input.
use Rattle.std.specs.Prelude.{◌≡◌, ◌≢◌, ℕ, ◌*◌, ◌<◌, ◌≤◌, ℤ, pos, ◌-ℤ◌, Some, List, [], ◌∷◌}
use Rattle.isa_model.specs.declared.sizes.Size.TheVariants.{U64}
use Rattle.isa_model.specs.declared.registers.Reg.{Reg}
use Rattle.isa_model.specs.declared.registers.Reg.TheVariants.{R1, R10}
use Rattle.isa_model.specs.declared.frames.FrameHead.{FrameHead}
use Rattle.isa_model.specs.declared.instructions.Place.{Place}
use Rattle.isa_model.specs.declared.instructions.Insn.{Insn}
use Rattle.isa_model.specs.declared.instructions.Insn.TheVariants.{Load, Store, StoreConstant}
use Rattle.isa_model.specs.Code.Instructions.{Program, fetch, reads, writes}
use Rattle.isa_model.specs.Machine.States.{KeyValues, State}
use Rattle.isa_model.specs.Machine.MachineStates.{IsGiven, IsClock}
use Rattle.isa_model.specs.Running.Runs.{start_state, Reaches, Runs}
use Rattle.isa_model.specs.Code.Limits.{max_steps, stack_size}
use Rattle.isa_model.specs.MustAccept.Paths.{IsPlainForm, Each, IsOneOf, IsWhole}

-- ---- forms

-- from a call frame's end, stack slot j, counted from the lowest offset on
abbrev pub stack_slot_offset : ℕ → ℤ
stack_slot_offset j = pos (8 * j) -ℤ pos stack_size

abbrev pub stack_slot_place : ℕ → Place
stack_slot_place j = record { base = R10; offset = stack_slot_offset j }

abbrev pub IsStackSlotPlace : Place → Type 0
IsStackSlotPlace place = (j : ℕ) × (j < 64) × (place ≡ stack_slot_place j)

-- plain forms, and loads and stores of 8 bytes through r10
abbrev pub IsDeterminedForm : Insn → Type 0
IsDeterminedForm (Load U64 d place) = IsStackSlotPlace place
IsDeterminedForm (Store U64 place r) = IsStackSlotPlace place
IsDeterminedForm (StoreConstant U64 place k) = IsStackSlotPlace place
IsDeterminedForm i = IsPlainForm i

-- the registers that an instruction reads, the base of a place aside
abbrev pub operands : Insn → List Reg
operands (Load size d place) = []
operands (Store size place r) = r ∷ []
operands (StoreConstant size place k) = []
operands i = reads i

-- ---- the run

-- one of the first n steps of a run writes the register
pub record WritesIn (p : Program) (clock : ℕ → ℕ) (first : State) (n : ℕ) (r : Reg) : Type 0 where
  pub step : ℕ
  pub before : step < n
  pub state : State
  pub reached : Reaches p clock first step state
  pub insn : Insn
  pub here : fetch p state.slot ≡ Some insn
  pub writes_it : writes insn ≡ Some r

-- a run of the program from a start takes this number of steps, and reads r1 only after writing it;
-- `number` is its answer
pub record HasRun (p : Program) (steps : ℕ) : Type 0 where
  pub clock : ℕ → ℕ
  pub clock_is : IsClock clock
  pub head : FrameHead
  pub packet : List ℕ
  pub contents : List KeyValues
  pub given : IsGiven p head packet contents
  pub number : ℕ
  pub runs : Runs p clock (start_state head packet contents) steps number
  pub argument : (n : ℕ) (t : State) (i : Insn)
      → Reaches p clock (start_state head packet contents) n t
      → fetch p t.slot ≡ Some i → IsOneOf (reads i) R1
      → WritesIn p clock (start_state head packet contents) n R1

-- r10 is used as the base of a stack slot only, and the run is known
pub record IsDetermined (p : Program) (steps : ℕ) : Type 0 where
  pub forms : (slot : ℕ) (i : Insn) → fetch p slot ≡ Some i → IsDeterminedForm i
  pub whole : IsWhole p
  pub unnamed : (slot : ℕ) (i : Insn) → fetch p slot ≡ Some i → Each (λ r. r ≢ R10) (operands i)
  pub own : (slot : ℕ) (i : Insn) → fetch p slot ≡ Some i → writes i ≢ Some R10
  pub run : HasRun p steps
  pub most : steps ≤ max_steps
