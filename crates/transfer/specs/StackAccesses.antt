-- Loads and stores through frame pointers: the kinds that are loaded, the states that are left, and
-- the refusals.
use Rattle.std.specs.Prelude.{◌≡◌, ℕ, suc, ◌/◌, ◌<◌, ◌==◌, ℤ, List, Option, Some, None, Result, Ok, Err, if◌then◌else◌}
use Rattle.isa_model.specs.declared.sizes.Size.{Size}
use Rattle.isa_model.specs.declared.sizes.Size.TheVariants.{U64}
use Rattle.isa_model.specs.declared.sizes.SignedSize.{SignedSize}
use Rattle.isa_model.specs.Code.Sizes.{unsigned_size, size_extension}
use Rattle.reg_state.specs.declared.scalars.Scalar.{Scalar}
use Rattle.reg_state.specs.declared.kinds.Kind.{Kind}
use Rattle.reg_state.specs.declared.kinds.Kind.TheVariants.{Unset, Number, Stack, MapValueOrNull}
use Rattle.reg_state.specs.Arithmetic.{IsSignExtended}
use Rattle.stack_state.specs.declared.slots.StackSlot.{StackSlot}
use Rattle.stack_state.specs.declared.states.State.{State}
use Rattle.stack_state.specs.Meaning.{depth, stack_slots_of}
use Rattle.stack_state.specs.Slots.{slot_at, IsLoad, IsFill}
use Rattle.stack_state.specs.FramePlaces.{IsPlace, IsStoredIn, IsSpilledIn}
use Rattle.stack_state.specs.NumberStores.{IsNumberStoredIn}
use Rattle.transfer.specs.declared.refusals.Refusal.{Refusal}
use Rattle.transfer.specs.declared.refusals.Refusal.TheVariants.{StackPlace, StackBytes, NullNotTested, PointerStored}

-- ---- places

-- a place in the bytes of a live call frame, at an offset from the frame's end
pub record IsFramePlace (a : State) (frame : ℕ) (z : ℤ) (size : Size) (at : ℕ) : Type 0 where
  pub live : frame < depth a
  pub place : IsPlace z size at

abbrev pub IsNoFramePlace : State → ℕ → ℤ → Size → Type 0
IsNoFramePlace a frame z size = (at : ℕ) → ¬ IsFramePlace a frame z size at

abbrev pub FindsFramePlace : State → ℕ → ℤ → Size → Option ℕ → Type 0
FindsFramePlace a frame z size (Some at) = IsFramePlace a frame z size at
FindsFramePlace a frame z size None = IsNoFramePlace a frame z size

-- ---- loads

-- the number that the bytes spell; `None`: not all of them are written number bytes
abbrev pub IsNumberLoad : List StackSlot → ℕ → Size → Option Kind → Type 0
IsNumberLoad stack_slots at size None = IsLoad stack_slots at size None
IsNumberLoad stack_slots at size (Some (Number c)) = IsLoad stack_slots at size (Some c)
IsNumberLoad stack_slots at size (Some k) = ⊥

-- a load of 8 bytes returns the value that was stored whole
abbrev pub IsStackLoad : List StackSlot → ℕ → Size → Option Kind → Type 0
IsStackLoad stack_slots at U64 loaded = IsFill (slot_at stack_slots (at / 8)) loaded
IsStackLoad stack_slots at size loaded = IsNumberLoad stack_slots at size loaded

-- the number, sign-extended
abbrev pub IsSignedLoad : List StackSlot → ℕ → SignedSize → Option Kind → Type 0
IsSignedLoad stack_slots at size None = IsLoad stack_slots at (unsigned_size size) None
IsSignedLoad stack_slots at size (Some (Number c)) =
    (b : Scalar) × IsLoad stack_slots at (unsigned_size size) (Some b)
    × IsSignExtended (size_extension size) b c
IsSignedLoad stack_slots at size (Some k) = ⊥

-- a load is refused for its place, and then for its bytes
abbrev pub LoadsIn : State → ℕ → ℤ → Size → (List StackSlot → ℕ → Option Kind → Type 0)
    → Result Kind Refusal → Type 0
LoadsIn a frame z size gives (Ok k) =
    (at : ℕ) × IsFramePlace a frame z size at × gives (stack_slots_of a frame) at (Some k)
LoadsIn a frame z size gives (Err StackPlace) = IsNoFramePlace a frame z size
LoadsIn a frame z size gives (Err StackBytes) =
    (at : ℕ) × IsFramePlace a frame z size at × gives (stack_slots_of a frame) at None
LoadsIn a frame z size gives (Err e) = ⊥

abbrev pub StackLoads : State → ℕ → ℤ → Size → Result Kind Refusal → Type 0
StackLoads a frame z size result =
    LoadsIn a frame z size (λ stack_slots at. IsStackLoad stack_slots at size) result

abbrev pub StackLoadsSigned : State → ℕ → ℤ → SignedSize → Result Kind Refusal → Type 0
StackLoadsSigned a frame z size result =
    LoadsIn a frame z (unsigned_size size)
    (λ stack_slots at. IsSignedLoad stack_slots at size) result

-- ---- stores

-- the refusal, unless the access has 8 bytes
abbrev pub whole_or : Refusal → Size → Option Refusal
whole_or refusal U64 = None
whole_or refusal size = Some refusal

-- why a value is not stored in a frame: pointers are stored whole, and those into frames in the
-- innermost only
abbrev pub store_refusal : State → ℕ → Size → Kind → Option Refusal
store_refusal a frame size Unset = Some PointerStored
store_refusal a frame size (Number numbers) = None
store_refusal a frame size (Stack f z) =
    if suc frame == depth a then whole_or PointerStored size else Some PointerStored
store_refusal a frame size (MapValueOrNull m identity) = whole_or NullNotTested size
store_refusal a frame size k = whole_or PointerStored size

-- 8 bytes keep what is known of the value; others are number bytes, and keep what is known of the
-- number where the other bytes of the stack slot are number bytes too
abbrev pub IsLeft : State → ℕ → ℕ → Size → Kind → State → Type 0
IsLeft a frame at U64 source b = IsSpilledIn a frame (at / 8) source b
IsLeft a frame at size (Number numbers) b = IsNumberStoredIn a frame at size numbers b
IsLeft a frame at size source b = IsStoredIn a frame at size b

abbrev pub IsStoreRefused : State → ℕ → ℤ → Size → Kind → Refusal → Type 0
IsStoreRefused a frame z size source StackPlace = IsNoFramePlace a frame z size
IsStoreRefused a frame z size source e =
    (at : ℕ) × IsFramePlace a frame z size at × (store_refusal a frame size source ≡ Some e)

-- a store is refused for its place, and then for its value
abbrev pub StackStores : State → ℕ → ℤ → Size → Kind → State → Result (Unit {0}) Refusal → Type 0
StackStores a frame z size source b (Ok done) =
    (at : ℕ) × IsFramePlace a frame z size at × (store_refusal a frame size source ≡ None)
    × IsLeft a frame at size source b
StackStores a frame z size source b (Err e) = (b ≡ a) × IsStoreRefused a frame z size source e
