-- Kinds that a step changes wherever they are, and which parts of a state have none of them.
use Rattle.std.specs.Prelude.{◌≡◌, ℕ, ◌<◌, ◌==◌, nat_le, ◌||◌, not, Bool, true, List, length, slice_get, Some}
use Rattle.reg_state.specs.declared.kinds.Kind.{Kind}
use Rattle.reg_state.specs.declared.kinds.Kind.TheVariants.{Packet, MapValue, MapValueOrNull}
use Rattle.stack_state.specs.declared.slots.StackSlot.{StackSlot}
use Rattle.stack_state.specs.declared.slots.StackSlot.TheVariants.{Written, Spilled}
use Rattle.stack_state.specs.declared.states.AbstractFrame.{AbstractFrame}
use Rattle.stack_state.specs.declared.states.State.{State}
use Rattle.rechecking.specs.declared.changes.KindChange.{KindChange}
use Rattle.rechecking.specs.declared.changes.KindChange.TheVariants.{Proves, Tests, Forgets}
use Rattle.rechecking.specs.declared.untouched.UntouchedParts.{UntouchedParts}

-- the kind stays as it is
abbrev pub is_kind_kept : KindChange → Kind → Bool
is_kind_kept (Proves name bytes) (Packet fixed identity least greatest proved) =
    not (identity == name) || nat_le bytes proved
is_kind_kept (Tests name) (MapValueOrNull map identity) = not (identity == name)
is_kind_kept (Forgets name) (MapValue map least greatest) = not (map == name)
is_kind_kept (Forgets name) (MapValueOrNull map identity) = not (map == name)
is_kind_kept change k = true

abbrev pub is_slot_kept : KindChange → StackSlot → Bool
is_slot_kept change (Written marks) = true
is_slot_kept change (Spilled k) = is_kind_kept change k

-- the first n elements have the property
abbrev pub FirstHave : {X : Type 0} → (X → Type 0) → ℕ → List X → Type 0
FirstHave P n xs = (k : ℕ) (x : _) → k < n → slice_get xs k ≡ Some x → P x

abbrev pub AreKindsUnchanged : KindChange → List Kind → Type 0
AreKindsUnchanged change ks = FirstHave (λ k. is_kind_kept change k ≡ true) (length ks) ks

abbrev pub AreSlotsUnchanged : KindChange → List StackSlot → Type 0
AreSlotsUnchanged change slots =
    FirstHave (λ s. is_slot_kept change s ≡ true) (length slots) slots

abbrev pub IsFrameUnchanged : KindChange → AbstractFrame → Type 0
IsFrameUnchanged change f =
    AreKindsUnchanged change f.registers × AreSlotsUnchanged change f.stack.slots

-- the change leaves these parts of the state as they are
abbrev pub LeavesParts : KindChange → State → UntouchedParts → Type 0
LeavesParts change a parts =
    FirstHave (IsFrameUnchanged change) parts.frames a.callers.items
    × (parts.slots ≡ true → AreSlotsUnchanged change a.innermost.stack.slots)
