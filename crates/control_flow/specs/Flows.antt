-- Programs whose control flow is good, and the tests that find out.
use Rattle.std.specs.Prelude.{◌≡◌, ℕ, ◌<◌, ◌≤◌, ◌⊎◌, Option, Some, None, List, length, Bool, IsTrue, ◌↔◌, slice_index_or, false}
use Rattle.isa_model.specs.Code.Instructions.{Program}
use Rattle.control_flow.specs.declared.homes.HomeMask.{HomeMask}
use Rattle.control_flow.specs.declared.kept_numbers.KeptNumbers.{KeptNumbers}
use Rattle.control_flow.specs.declared.errors.FlowError.{FlowError}
use Rattle.control_flow.specs.declared.errors.FlowError.TheVariants.{TargetOutside, SecondHalf, OtherFunction, FallsOff, Unreachable, Memory}
use Rattle.control_flow.specs.Graph.{BeginsInsn, IsSecondHalf, jump_to, call_to, fall_to, Reached}
use Rattle.control_flow.specs.Functions.{SameFunction, EndsFunction}
use Rattle.control_flow.specs.Masks.{HasHome, mask_at}
use Rattle.control_flow.specs.Liveness.{Home, IsHomeLive}
use Rattle.control_flow.specs.TestedNumbers.{HasInput, MayForgetNumbers, IsNumberTested}
use Rattle.control_flow.specs.Endings.{EndsPlainly}

-- ---- good programs

-- a jump goes to an instruction of its own function, a call to an instruction, at which a function
-- begins, what falls through stays in its function, and every instruction can be reached
pub record IsFlow (p : Program) : Type 0 where
  pub jumps : (slot to : ℕ) → jump_to p slot ≡ Some to → BeginsInsn p to × SameFunction p slot to
  pub calls : (slot to : ℕ) → call_to p slot ≡ Some to → BeginsInsn p to
  pub falls : (slot to : ℕ) → fall_to p slot ≡ Some to → BeginsInsn p to × SameFunction p slot to
  pub reached : (slot : ℕ) → BeginsInsn p slot → Reached p slot

-- the target of a jump, at which paths may meet
abbrev pub IsJoin : Program → ℕ → Type 0
IsJoin p to = (slot : ℕ) × (jump_to p slot ≡ Some to)

-- ---- the tests

-- the target of the jump or of the call at a slot
abbrev pub HasTarget : Program → ℕ → ℕ → Type 0
HasTarget p slot to = (jump_to p slot ≡ Some to) ⊎ (call_to p slot ≡ Some to)

-- the test fails at a slot
abbrev pub Fails : Program → FlowError → ℕ → Type 0
Fails p TargetOutside slot = (to : ℕ) × HasTarget p slot to × (length p.insns ≤ to)
Fails p SecondHalf slot = (to : ℕ) × HasTarget p slot to × IsSecondHalf p to
Fails p OtherFunction slot = (to : ℕ) × (jump_to p slot ≡ Some to) × (¬ SameFunction p slot to)
Fails p FallsOff slot = (to : ℕ) × (fall_to p slot ≡ Some to) × EndsFunction p to
Fails p Unreachable slot = BeginsInsn p slot × (¬ Reached p slot)
Fails p Memory slot = ⊥

-- the rank of a test, from 1, in the order of the tests
abbrev pub test_rank : FlowError → ℕ
test_rank TargetOutside = 1
test_rank SecondHalf = 2
test_rank OtherFunction = 3
test_rank FallsOff = 4
test_rank Unreachable = 5
test_rank Memory = 6

-- the first test that fails, at the lowest slot at which it does
pub record IsFirst (p : Program) (e : FlowError) (slot : ℕ) : Type 0 where
  pub fails : Fails p e slot
  pub lowest : (k : ℕ) → k < slot → ¬ Fails p e k
  pub first : (d : FlowError) (k : ℕ) → test_rank d < test_rank e → ¬ Fails p d k

-- memory may run out at any test
abbrev pub IsRefusal : Program → FlowError → ℕ → Type 0
IsRefusal p Memory slot = slot ≡ 0
IsRefusal p e slot = IsFirst p e slot

-- ---- what one test finds

-- the lowest slot at which it fails, if there is one
abbrev pub IsLowest : (ℕ → Type 0) → Option ℕ → Type 0
IsLowest FailsAt None = (k : ℕ) → ¬ FailsAt k
IsLowest FailsAt (Some slot) = FailsAt slot × ((k : ℕ) → k < slot → ¬ FailsAt k)

-- ---- marks

-- the slot is marked
abbrev pub IsMarked : List Bool → ℕ → Type 0
IsMarked marks slot = IsTrue (slice_index_or marks slot false)

-- the joins of a program are marked, and no other slots
abbrev pub MarksJoins : Program → List Bool → Type 0
MarksJoins p marks = (slot : ℕ) → IsMarked marks slot ↔ IsJoin p slot

-- ---- what a `Flow` knows

-- the mask of each slot has what is live there, and nothing else
abbrev pub AreLiveMasks : Program → List HomeMask → Type 0
AreLiveMasks p masks = (h : Home) (slot : ℕ) → HasHome (mask_at masks slot) h ↔ IsHomeLive p h slot

-- the mask of each slot has the homes whose numbers are tested from there on, and nothing else
abbrev pub AreTestedMasks : Program → List HomeMask → Type 0
AreTestedMasks p masks =
    (h : Home) (slot : ℕ) → HasHome (mask_at masks slot) h ↔ IsNumberTested p h slot

-- the slots from which only plain code follows are marked, and no other slots
abbrev pub MarksEndings : Program → List Bool → Type 0
MarksEndings p marks = (slot : ℕ) → IsMarked marks slot ↔ EndsPlainly p slot

pub record DescribesFlow (p : Program) (joins : List Bool) (masks : List HomeMask)
    (takes forgets : Bool) (tested : List HomeMask) (endings : List Bool) : Type 0 where
  pub flow : IsFlow p
  pub marked : MarksJoins p joins
  pub live : AreLiveMasks p masks
  pub input : IsTrue takes ↔ HasInput p
  pub may_forget : IsTrue forgets ↔ MayForgetNumbers p
  -- these are empty where no number may be forgotten
  pub tests : MayForgetNumbers p → AreTestedMasks p tested
  pub ends : MayForgetNumbers p → MarksEndings p endings

-- what is kept at each slot is tested from there on
abbrev pub KeepsTested : Program → KeptNumbers → Type 0
KeepsTested p kept =
    (h : Home) (slot : ℕ) → HasHome (mask_at kept.masks.items slot) h → IsNumberTested p h slot
