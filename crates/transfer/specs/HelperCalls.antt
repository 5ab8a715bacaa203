-- Calls of helpers: the kinds of their arguments, the bytes that these point to, and what a call
-- leaves.
-- bpf-helpers(7); Linux, Documentation/bpf/verifier.rst.
use Rattle.std.specs.Prelude.{◌≡◌, ℕ, ◌+◌, ◌<◌, ◌≤◌, ℤ, pos, ◌+ℤ◌, Bool, true, false, ◌||◌, ◌&&◌, if◌then◌else◌, List, slice_get, Option, Some, None, Result, Ok, Err}
use Rattle.isa_model.specs.Code.Limits.{stack_size}
use Rattle.isa_model.specs.declared.registers.Reg.TheVariants.{R1, R2, R3, R4}
use Rattle.isa_model.specs.declared.helpers.Helper.{Helper}
use Rattle.isa_model.specs.declared.helpers.Helper.TheVariants.{MapLookupElem, MapUpdateElem, MapDeleteElem, KtimeGetNs}
use Rattle.isa_model.specs.declared.map_defs.MapType.{MapType}
use Rattle.isa_model.specs.declared.map_defs.MapType.TheVariants.{Hash, Array}
use Rattle.isa_model.specs.declared.map_defs.MapDef.{MapDef}
use Rattle.isa_model.specs.Code.Helpers.{helper_numbered}
use Rattle.reg_state.specs.declared.kinds.Kind.{Kind}
use Rattle.reg_state.specs.declared.kinds.Kind.TheVariants.{Number, Stack, Packet, Map, MapValue, MapValueOrNull}
use Rattle.stack_state.specs.declared.states.State.{State}
use Rattle.stack_state.specs.Meaning.{depth, stack_slots_of}
use Rattle.stack_state.specs.Places.{kind_of}
use Rattle.stack_state.specs.Slots.{AreMarked, IsAnyNumber}
use Rattle.stack_state.specs.Identities.{IsLeastFreshNull}
use Rattle.stack_state.specs.Effects.{forgotten_in}
use Rattle.stack_state.specs.HelperAnswers.{with_answer}
use Rattle.transfer.specs.declared.refusals.Refusal.{Refusal}
use Rattle.transfer.specs.declared.refusals.Refusal.TheVariants.{NullNotTested, HelperArgument, HelperBytes}
use Rattle.transfer.specs.declared.helpers.CalledMap.{CalledMap}
use Rattle.transfer.specs.Refusing.{is_untested}
use Rattle.transfer.specs.Packets.{AreInPacket}
use Rattle.transfer.specs.Values.{value_size, AreInValue}

-- ---- the kinds of the arguments

abbrev pub map_with_row : ℕ → Option MapDef → Result CalledMap Refusal
map_with_row m (Some row) = Ok (record { index = m; row = row })
map_with_row m None = Err HelperArgument

-- the map that a call names in r1
abbrev pub called_map : List MapDef → Kind → Result CalledMap Refusal
called_map rows (Map m) = map_with_row m (slice_get rows m)
called_map rows k = Err HelperArgument

-- a pointer to bytes: into a call frame, the packet or a map's value
abbrev pub points_to_bytes : Kind → Bool
points_to_bytes (Stack frame offset) = true
points_to_bytes (Packet fixed identity least greatest proved) = true
points_to_bytes (MapValue m least greatest) = true
points_to_bytes k = false

abbrev pub is_number : Kind → Bool
is_number (Number numbers) = true
is_number k = false

-- what was looked up has to be tested first; then the kinds are tested
abbrev pub judged : (untested fit : Bool) → Result CalledMap Refusal → Result CalledMap Refusal
judged untested fit map =
    if untested then Err NullNotTested else if fit then map else Err HelperArgument

-- a map and a key
abbrev pub key_arguments : List MapDef → State → Result CalledMap Refusal
key_arguments rows a =
    judged (is_untested (kind_of a R1) || is_untested (kind_of a R2))
    (points_to_bytes (kind_of a R2))
    (called_map rows (kind_of a R1))

-- a map, a key, a value and flags
abbrev pub update_arguments : List MapDef → State → Result CalledMap Refusal
update_arguments rows a =
    judged ((is_untested (kind_of a R1) || is_untested (kind_of a R2))
    || (is_untested (kind_of a R3) || is_untested (kind_of a R4)))
    (points_to_bytes (kind_of a R2) && (points_to_bytes (kind_of a R3) && is_number (kind_of a R4)))
    (called_map rows (kind_of a R1))

-- ---- the bytes that they point to

-- n bytes of a live frame are all written number bytes, aligned or not
pub record AreInFrame (a : State) (frame : ℕ) (z : ℤ) (n : ℕ) : Type 0 where
  pub live : frame < depth a
  pub at : ℕ
  pub from_start : (z +ℤ pos stack_size) ≡ pos at
  pub inside : at + n ≤ stack_size
  pub marked : AreMarked (stack_slots_of a frame) at (at + n)

-- n bytes at a pointer are known to be there, and to be number bytes
abbrev pub AreKnown : List MapDef → State → Kind → ℕ → Type 0
AreKnown rows a (Stack frame z) n = AreInFrame a frame z n
AreKnown rows a (Packet fixed identity least greatest proved) n =
    AreInPacket fixed least proved (pos 0) n
AreKnown rows a (MapValue m least greatest) n =
    AreInValue (value_size (slice_get rows m)) least greatest (pos 0) n
AreKnown rows a k n = ⊥

abbrev pub KeyIsKnown : List MapDef → State → CalledMap → Type 0
KeyIsKnown rows a m = AreKnown rows a (kind_of a R2) m.row.key_size

abbrev pub ValueIsKnown : List MapDef → State → CalledMap → Type 0
ValueIsKnown rows a m = AreKnown rows a (kind_of a R3) m.row.value_size

-- ---- what a call leaves

-- some number in r0
abbrev pub AnswersNumber : State → State → Type 0
AnswersNumber a b = (k : Kind) × IsAnyNumber k × (b ≡ with_answer a k)

-- a pointer to a value of the map or null, with an identity that is not used yet
abbrev pub AnswersValue : State → CalledMap → State → Type 0
AnswersValue a m b = (i : ℕ) × IsLeastFreshNull a i × (b ≡ with_answer a (MapValueOrNull m.index i))

-- an array keeps its values
abbrev pub without_values : MapType → ℕ → State → State
without_values Hash m a = forgotten_in m a
without_values Array m a = a

-- the state after the call, if the arguments are right and their bytes known
abbrev pub LeavesIf : Result CalledMap Refusal → (CalledMap → Type 0) → (CalledMap → State → Type 0)
    → State → Result (Unit {0}) Refusal → Type 0
LeavesIf (Ok m) Known leaves b (Ok done) = Known m × leaves m b
LeavesIf (Ok m) Known leaves b (Err e) = (e ≡ HelperBytes) × ¬ Known m
LeavesIf (Err e) Known leaves b result = result ≡ Err e

abbrev pub StepsHelper : List MapDef → State → Option Helper → State → Result (Unit {0}) Refusal
    → Type 0
StepsHelper rows a (Some MapLookupElem) b result =
    LeavesIf (key_arguments rows a) (KeyIsKnown rows a) (AnswersValue a) b result
StepsHelper rows a (Some MapUpdateElem) b result =
    LeavesIf (update_arguments rows a) (λ m. KeyIsKnown rows a m × ValueIsKnown rows a m)
    (λ m. AnswersNumber a) b result
StepsHelper rows a (Some MapDeleteElem) b result =
    LeavesIf (key_arguments rows a) (KeyIsKnown rows a)
    (λ m. AnswersNumber (without_values m.row.kind m.index a)) b result
StepsHelper rows a (Some KtimeGetNs) b result = (result ≡ Ok tt) × AnswersNumber a b
StepsHelper rows a None b result = result ≡ Err HelperArgument

-- the call of the helper with this number
abbrev pub CallsHelper : List MapDef → State → ℤ → State → Result (Unit {0}) Refusal → Type 0
CallsHelper rows a number b result = StepsHelper rows a (helper_numbered number) b result
