-- Which parts of a state the step of an instruction surely leaves as they are.
use Rattle.std.specs.Prelude.{◌≡◌, ℕ, ◌-◌, ◌<◌, ◌⊎◌, ◌==◌, Bool, true, false, if◌then◌else◌, length, slice_get, Option, Some}
use Rattle.isa_model.specs.declared.registers.Reg.TheVariants.{R1}
use Rattle.isa_model.specs.declared.helpers.Helper.{Helper}
use Rattle.isa_model.specs.declared.helpers.Helper.TheVariants.{MapDeleteElem}
use Rattle.isa_model.specs.declared.instructions.Insn.{Insn}
use Rattle.isa_model.specs.declared.instructions.Insn.TheVariants.{StoreConstant, Store, Atomic, Exchange, CompareExchange, JumpIf, CallHelper, CallLocal, Exit}
use Rattle.isa_model.specs.Code.Helpers.{helper_numbered}
use Rattle.reg_state.specs.declared.kinds.Kind.{Kind}
use Rattle.reg_state.specs.declared.kinds.Kind.TheVariants.{Stack, Map}
use Rattle.stack_state.specs.declared.states.AbstractFrame.{AbstractFrame}
use Rattle.stack_state.specs.declared.states.State.{State}
use Rattle.stack_state.specs.Places.{kind_of}
use Rattle.stack_state.specs.Calls.{without_frame}
use Rattle.stack_state.specs.Effects.{with_kinds}
use Rattle.branch_refine.specs.Comparing.{compared_by}
use Rattle.branch_refine.specs.declared.comparing.Compared.{Compared}
use Rattle.branch_refine.specs.declared.comparing.Compared.TheVariants.{Numbers, Packet, OrNull, Live, Undefined}
use Rattle.transfer.specs.declared.Ways.{Ways}
use Rattle.transfer.specs.declared.Ways.TheVariants as ways
use Rattle.rechecking.specs.declared.changes.KindChange.TheVariants.{Proves, Tests, Forgets}
use Rattle.rechecking.specs.declared.untouched.UntouchedParts.{UntouchedParts}
use Rattle.rechecking.specs.Changes.{LeavesParts}

abbrev pub none_kept : UntouchedParts
none_kept = record { frames = 0; slots = false }

abbrev pub outer_kept : State → Bool → UntouchedParts
outer_kept a slots = record { frames = length a.callers.items; slots = slots }

-- a write through a pointer into a call frame leaves the frames before it, and the stack slots of
-- the innermost if it is another
abbrev pub kept_by_write : State → Kind → UntouchedParts
kept_by_write a (Stack frame offset) =
    if frame == length a.callers.items then outer_kept a false
    else record { frames = frame; slots = true }
kept_by_write a k = outer_kept a true

-- what is learned of an identity changes all kinds with it
abbrev pub KeptByTest : State → Compared → UntouchedParts → Type 0
KeptByTest a Numbers parts = parts ≡ outer_kept a true
KeptByTest a (Packet identity shows bytes) parts = LeavesParts (Proves identity bytes) a parts
KeptByTest a (OrNull identity null) parts = LeavesParts (Tests identity) a parts
KeptByTest a (Live null) parts = parts ≡ outer_kept a true
KeptByTest a Undefined parts = parts ≡ none_kept

-- a delete forgets pointers to values of the map in r1
abbrev pub KeptByDelete : State → Kind → UntouchedParts → Type 0
KeptByDelete a (Map index) parts = LeavesParts (Forgets index) a parts
KeptByDelete a k parts = parts ≡ none_kept

abbrev pub KeptByHelper : State → Option Helper → UntouchedParts → Type 0
KeptByHelper a (Some MapDeleteElem) parts = KeptByDelete a (kind_of a R1) parts
KeptByHelper a helper parts = parts ≡ outer_kept a true

-- these parts are kept; an exit pops the last frame
abbrev pub KeptBy : State → Insn → UntouchedParts → Type 0
KeptBy a (JumpIf cond by) parts = KeptByTest a (compared_by a cond) parts
KeptBy a (CallLocal by) parts = parts ≡ outer_kept a false
KeptBy a Exit parts = parts ≡ record { frames = length a.callers.items - 1; slots = false }
KeptBy a (StoreConstant size place k) parts = parts ≡ kept_by_write a (kind_of a place.base)
KeptBy a (Store size place r) parts = parts ≡ kept_by_write a (kind_of a place.base)
KeptBy a (Atomic w op fetched place r) parts = parts ≡ kept_by_write a (kind_of a place.base)
KeptBy a (Exchange w place r) parts = parts ≡ kept_by_write a (kind_of a place.base)
KeptBy a (CompareExchange w place r) parts = parts ≡ kept_by_write a (kind_of a place.base)
KeptBy a (CallHelper number) parts = KeptByHelper a (helper_numbered number) parts
KeptBy a i parts = parts ≡ outer_kept a true

-- none where the step has no successor
abbrev pub kept_after : Ways → UntouchedParts → UntouchedParts
kept_after ways.None parts = none_kept
kept_after w parts = parts

-- each of b's first n outer frames is a's, without pointers into a's innermost frame if that has
-- ended
abbrev pub KeepsOuterFrames : ℕ → State → State → Type 0
KeepsOuterFrames n a b =
    (j : ℕ) (f : AbstractFrame) → j < n → slice_get b.callers.items j ≡ Some f
    → (g : AbstractFrame) × (slice_get a.callers.items j ≡ Some g)
    × ((f ≡ g) ⊎ (f ≡ with_kinds (without_frame (length a.callers.items)) g))

-- b has these parts of a
pub record KeepsParts (parts : UntouchedParts) (a b : State) : Type 0 where
  pub frames : KeepsOuterFrames parts.frames a b
  pub slots : parts.slots ≡ true
      → (length b.callers.items ≡ length a.callers.items)
      × (b.innermost.stack.slots ≡ a.innermost.stack.slots)
