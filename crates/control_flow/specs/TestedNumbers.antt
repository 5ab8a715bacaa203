-- Which numbers matter: some path tests them, or makes of them a number that it tests.
-- The kernel's verifier calls such numbers precise. A verifier may forget the others.
use Rattle.std.specs.Prelude.{◌≡◌, ◌≢◌, ◌⊎◌, ℕ, zero, suc, ◌<◌, Some}
use Rattle.isa_model.specs.declared.versions.Version.TheVariants.{Two}
use Rattle.isa_model.specs.declared.registers.Reg.TheVariants.{R10}
use Rattle.isa_model.specs.declared.sizes.Width.TheVariants.{Full64}
use Rattle.isa_model.specs.declared.instructions.AluOp.TheVariants.{Add, Sub}
use Rattle.isa_model.specs.declared.instructions.Operand.TheVariants.{Register}
use Rattle.isa_model.specs.declared.instructions.Place.{Place}
use Rattle.isa_model.specs.declared.instructions.Insn.{Insn}
use Rattle.isa_model.specs.declared.instructions.Insn.TheVariants.{Alu, Load, LoadSx, Store, Atomic, Exchange, CompareExchange, JumpIf, CallHelper, Exit}
use Rattle.isa_model.specs.Code.Instructions.{Program, fetch}
use Rattle.isa_model.specs.MustAccept.Paths.{IsOneOf}
use Rattle.control_flow.specs.Graph.{call_to}
use Rattle.control_flow.specs.Accesses.{read_registers, written_registers}
use Rattle.control_flow.specs.StackUse.{IsWithinSlot, FrameAddressIsTaken}
use Rattle.control_flow.specs.Liveness.{Home, InRegister, InSlot, IsWrittenBy, GoesTo}

-- ---- programs whose numbers may be forgotten

-- what it writes may differ from run to run: a load of what is not in the stack, as far as the base
-- shows, and a helper's answer
abbrev pub TakesInput : Insn → Type 0
TakesInput (Load size d place) = place.base ≢ R10
TakesInput (CallHelper number) = Unit {0}
TakesInput i = ⊥

-- the instruction at a slot of the code does
abbrev pub TakesInputAt : Program → ℕ → Type 0
TakesInputAt p slot = (i : Insn) × (fetch p slot ≡ Some i) × TakesInput i

-- an instruction of the program does. All numbers of other programs stay known
abbrev pub HasInput : Program → Type 0
HasInput p = (slot : ℕ) × TakesInputAt p slot

-- the program takes input, and calls no function of its own: what a path in a function tests is all
-- that matters then
pub record MayForgetNumbers (p : Program) : Type 0 where
  pub takes : HasInput p
  pub calls_none : (slot to : ℕ) → call_to p slot ≢ Some to

-- ---- tests

-- the numbers in the registers that it reads decide where control goes or what is refused, or move
-- a pointer
abbrev pub TestsNumbers : Program → Insn → Type 0
TestsNumbers p (JumpIf test by) = Unit {0}
TestsNumbers p (Alu Full64 Add d (Register r)) = Unit {0}
TestsNumbers p (Alu Full64 Sub d (Register r)) = Unit {0}
TestsNumbers p Exit = p.version ≡ Two
TestsNumbers p i = ⊥

-- the instruction at a slot of the code tests the number there
abbrev pub TestsHome : Program → Home → ℕ → Type 0
TestsHome p (InRegister r) slot =
    (i : Insn) × (fetch p slot ≡ Some i) × TestsNumbers p i × IsOneOf (read_registers i) r
TestsHome p (InSlot j) slot = ⊥

-- ---- where numbers go

-- a place that is accessed may be in the stack slot: with the base r10 its offset says so, and
-- another register may point there if a frame's address is taken
abbrev pub MayBeInSlot : Type 0 → Place → ℕ → Type 0
MayBeInSlot taken place j = IsWithinSlot place j ⊎ ((place.base ≢ R10) × (j < 64) × taken)

abbrev pub MayReadSlot : Type 0 → Insn → ℕ → Type 0
MayReadSlot taken (Load size d place) j = MayBeInSlot taken place j
MayReadSlot taken (LoadSx size d place) j = MayBeInSlot taken place j
MayReadSlot taken (Atomic w op fetches place r) j = MayBeInSlot taken place j
MayReadSlot taken (Exchange w place r) j = MayBeInSlot taken place j
MayReadSlot taken (CompareExchange w place r) j = MayBeInSlot taken place j
MayReadSlot taken i j = ⊥

-- an atomic instruction leaves bytes in memory of which no number is known
abbrev pub MayWriteSlot : Type 0 → Insn → ℕ → Type 0
MayWriteSlot taken (Store size place r) j = MayBeInSlot taken place j
MayWriteSlot taken i j = ⊥

-- the instruction may read a number there
abbrev pub MayRead : Type 0 → Insn → Home → Type 0
MayRead taken i (InRegister r) = IsOneOf (read_registers i) r
MayRead taken i (InSlot j) = MayReadSlot taken i j

-- it may write a number there, or a part of one
abbrev pub MayWrite : Type 0 → Insn → Home → Type 0
MayWrite taken i (InRegister r) = IsOneOf (written_registers i) r
MayWrite taken i (InSlot j) = MayWriteSlot taken i j

-- the number that was in h may be in g after the instruction, or be part of the one there: it
-- stays, or it is read
abbrev pub Passes : Type 0 → Insn → Home → Home → Type 0
Passes taken i h g = ((g ≡ h) × (¬ IsWrittenBy i h)) ⊎ (MayRead taken i h × MayWrite taken i g)

-- the same of the instruction at a slot of the code
abbrev pub MayReadAt : Program → Home → ℕ → Type 0
MayReadAt p h slot = (i : Insn) × (fetch p slot ≡ Some i) × MayRead (FrameAddressIsTaken p) i h

abbrev pub MayWriteAt : Program → Home → ℕ → Type 0
MayWriteAt p h slot = (i : Insn) × (fetch p slot ≡ Some i) × MayWrite (FrameAddressIsTaken p) i h

abbrev pub PassesAt : Program → Home → Home → ℕ → Type 0
PassesAt p h g slot =
    (i : Insn) × (fetch p slot ≡ Some i) × Passes (FrameAddressIsTaken p) i h g

-- ---- paths

-- a path of n edges goes from a slot to one that tests the number, wherever it went until then
abbrev pub IsTestedAfter : Program → Home → ℕ → ℕ → Type 0
IsTestedAfter p h zero slot = TestsHome p h slot
IsTestedAfter p h (suc n) slot =
    (next : ℕ) × GoesTo p slot next × (g : Home) × PassesAt p h g slot × IsTestedAfter p g n next

-- some path from the slot tests the number, or one that is made of it
abbrev pub IsNumberTested : Program → Home → ℕ → Type 0
IsNumberTested p h slot = (n : ℕ) × IsTestedAfter p h n slot
