-- Every instruction but a local call and an exit keeps the slots to which the live call frames
-- return.
use Rattle.transfer.proofs.Common.{◌≡◌, ℕ, ◌<◌, ℤ, Bool, true, false, if◌then◌else◌, List, [], ◌∷◌, ◌++◌, map, Option, Some, None, Result, Ok, Err, sym, ap, ◌∙◌, refl, map-append, Size, U64, Reg, R0, Cond, MapDef, Scalar, Kind, State, frames_of, abstract_frame_at, no_frame, depth, returns-with, frames_of-with_frame, Narrows, LearnsOf, Refines, IsLeft, helper_numbered, Refusal, CalledMap, key_arguments, update_arguments, KeyIsKnown, ValueIsKnown, AnswersNumber, AnswersValue, without_values, LeavesIf, StepsHelper, CallsHelper}
use Rattle.std.proofs.Math.Seq.{map-set_same}
use Rattle.reg_state.specs.declared.kinds.Kind.TheVariants as kind
use Rattle.stack_state.specs.declared.slots.StackSlot.{StackSlot}
use Rattle.stack_state.specs.Effects.{with_slots, with_frame_slots, forgotten_frame, with_kinds, map_kinds, proved_kind}
use Rattle.stack_state.proofs.KindEffects.{frames_of-map, same_returns}
use Rattle.branch_refine.specs.Comparing.{compared_by, same}
use Rattle.branch_refine.proofs.RefiningLaws.{numbers-compared_by}
use Rattle.branch_refine.specs.declared.comparing.Compared.{Compared}
use Rattle.branch_refine.specs.declared.comparing.Compared.TheVariants as compared
use Rattle.transfer.specs.Accesses.{StoresKind}
use Rattle.transfer.specs.Atomics.{with_old, IsSwapped, SwapsAt, Swaps, ComparesIn}
use Rattle.isa_model.specs.declared.map_defs.MapType.{MapType}
use Rattle.isa_model.specs.declared.map_defs.MapType.TheVariants.{Hash, Array}
use Rattle.isa_model.specs.declared.helpers.Helper.{Helper}
use Rattle.isa_model.specs.declared.helpers.Helper.TheVariants.{MapLookupElem, MapUpdateElem, MapDeleteElem, KtimeGetNs}
use Rattle.stack_state.proofs.HelperEffects.{returns-with_answer}
use Rattle.transfer.specs.Following.{returns_of}

-- ---- memory

returns-with_frame_slots : (a : State) (j : ℕ) (stack_slots : List StackSlot) → j < depth a
    → returns_of (with_frame_slots a j stack_slots) ≡ returns_of a
returns-with_frame_slots a j stack_slots inside =
    ap (λ fs. map (λ f. f.return_slot) fs)
    (frames_of-with_frame a j (with_slots (abstract_frame_at a j) stack_slots) inside)
    ∙ map-set_same (λ f. f.return_slot) (frames_of a) j
    (with_slots (abstract_frame_at a j) stack_slots) no_frame refl

returns-left : (a b : State) (frame at : ℕ) (size : Size) (source : Kind) → frame < depth a
    → IsLeft a frame at size source b → returns_of b ≡ returns_of a
returns-left a b frame at U64 source live h =
    ap returns_of h.left ∙ returns-with_frame_slots a frame _ live
returns-left a b frame at size (kind.Number numbers) live h =
    ap returns_of h.left ∙ returns-with_frame_slots a frame _ live
returns-left a b frame at size source live h =
    ap returns_of h.left ∙ returns-with_frame_slots a frame _ live

-- a store
pub returns-stores : (rows : List MapDef) (a b : State) (size : Size) (base : Kind) (by : ℤ)
    (source : Kind) → StoresKind rows a size base by source b (Ok tt) → returns_of b ≡ returns_of a
returns-stores rows a b size (kind.Stack frame z) by source h =
    returns-left a b frame h.0 size source h.1.live h.3
returns-stores rows a b size (kind.Packet fixed identity least greatest proved) by source h =
    ap returns_of h.0
returns-stores rows a b size base by source h = ap returns_of h.0

returns-with_old : (a : State) (register : Option Reg) (old : Scalar)
    → returns_of (with_old register old a) ≡ returns_of a
returns-with_old a None old = refl
returns-with_old a (Some register) old = returns-with a register (kind.Number old)

returns-swapped : (a b : State) (frame at : ℕ) (size : Size) (register : Option Reg)
    → frame < depth a → IsSwapped a frame at size register b → returns_of b ≡ returns_of a
returns-swapped a b frame at size register live h =
    ap returns_of h.kept ∙ returns-with_old h.after register h.old ∙ ap returns_of h.stored.left
    ∙ returns-with_frame_slots a frame _ live

returns-swaps_at : (rows : List MapDef) (a b : State) (base : Kind) (by : ℤ) (size : Size)
    (register : Option Reg) → SwapsAt rows a base by size register b (Ok tt)
    → returns_of b ≡ returns_of a
returns-swaps_at rows a b (kind.Stack frame z) by size register h =
    returns-swapped a b frame h.0 size register h.1.live h.2
returns-swaps_at rows a b (kind.Packet fixed identity least greatest proved) by size register h =
    ap returns_of h.2.0
returns-swaps_at rows a b (kind.MapValue m least greatest) by size register h =
    ap returns_of h.1.2 ∙ returns-with_old a register h.1.0
returns-swaps_at rows a b base by size register h = ap returns_of h.0

-- an atomic instruction
pub returns-swaps : (rows : List MapDef) (a b : State) (source base : Kind) (by : ℤ) (size : Size)
    (register : Option Reg) → Swaps rows a source base by size register b (Ok tt)
    → returns_of b ≡ returns_of a
returns-swaps rows a b (kind.Number numbers) base by size register h =
    returns-swaps_at rows a b base by size register h
returns-swaps rows a b source base by size register h = ap returns_of h.0

-- CMPXCHG
pub returns-compares : (rows : List MapDef) (a b : State) (expected source base : Kind) (by : ℤ)
    (size : Size) → ComparesIn rows a expected source base by size b (Ok tt)
    → returns_of b ≡ returns_of a
returns-compares rows a b (kind.Number numbers) source base by size h =
    returns-swaps rows a b source base by size (Some R0) h
returns-compares rows a b expected source base by size h = ap returns_of h.0

-- ---- jumps

returns-map_kinds : (g : Kind → Kind) (a : State) → returns_of (map_kinds g a) ≡ returns_of a
returns-map_kinds g a =
    ap (λ fs. map (λ f. f.return_slot) fs) (frames_of-map (with_kinds g) a)
    ∙ same_returns (with_kinds g) (frames_of a) (λ f. refl)

returns-proved : (g : Kind → Kind) (a : State) (b : Bool)
    → returns_of (if b then map_kinds g a else a) ≡ returns_of a
returns-proved g a true = returns-map_kinds g a
returns-proved g a false = refl

returns-narrows : (a b : State) → Narrows a b → returns_of b ≡ returns_of a
returns-narrows a b h =
    map-append (λ f. f.return_slot) b.callers.items (b.innermost ∷ [])
    ∙ ap (λ v. map (λ f. f.return_slot) v.items ++ b.innermost.return_slot ∷ []) h.callers
    ∙ ap (λ n. map (λ f. f.return_slot) a.callers.items ++ n ∷ []) h.returns
    ∙ sym (map-append (λ f. f.return_slot) a.callers.items (a.innermost ∷ []))

returns-leaves : (cond : Cond) (taken : Bool) (a : State) (some : Bool) (b : State) (c : Compared)
    → compared_by a cond ≡ c
    → Refines cond taken a some b → LearnsOf c taken a some b → returns_of b ≡ returns_of a
returns-leaves cond taken a some b compared.Numbers is h l =
    returns-narrows a b (h.narrowed (numbers-compared_by a cond is))
returns-leaves cond taken a some b (compared.Packet identity shows bytes) is h l =
    ap returns_of l.1 ∙ returns-proved (proved_kind identity bytes) a (same taken shows)
returns-leaves cond taken a some b (compared.OrNull identity null) is h l =
    let (zeros, has, constant, is) = l.1 in
    ap returns_of is ∙ returns-map_kinds _ a
returns-leaves cond taken a some b (compared.Live null) is h l = ap returns_of l.1
returns-leaves cond taken a some b compared.Undefined is h l = ap returns_of l.1

-- each side of a conditional jump
pub returns-refines : (cond : Cond) (taken : Bool) (a : State) (some : Bool) (b : State)
    → Refines cond taken a some b → returns_of b ≡ returns_of a
returns-refines cond taken a some b h =
    returns-leaves cond taken a some b (compared_by a cond) refl h h.pointers

-- ---- helpers

returns-without_values : (kind : MapType) (m : ℕ) (a : State)
    → returns_of (without_values kind m a) ≡ returns_of a
returns-without_values Hash m a =
    ap (λ fs. map (λ f. f.return_slot) fs) (frames_of-map (forgotten_frame m) a)
    ∙ same_returns (forgotten_frame m) (frames_of a) (λ f. refl)
returns-without_values Array m a = refl

returns-leaves_if : (a b : State) (map : Result CalledMap Refusal) (Known : CalledMap → Type 0)
    (leaves : CalledMap → State → Type 0)
    → ((m : CalledMap) → leaves m b → returns_of b ≡ returns_of a)
    → LeavesIf map Known leaves b (Ok tt) → returns_of b ≡ returns_of a
returns-leaves_if a b (Ok m) Known leaves same h = same m h.1
returns-leaves_if a b (Err e) Known leaves same h = absurd (cc)

returns-number : (a b : State) → AnswersNumber a b → returns_of b ≡ returns_of a
returns-number a b h = ap returns_of h.2 ∙ returns-with_answer a h.0

returns-helps : (rows : List MapDef) (a b : State) (helper : Option Helper)
    → StepsHelper rows a helper b (Ok tt) → returns_of b ≡ returns_of a
returns-helps rows a b (Some MapLookupElem) h =
    returns-leaves_if a b (key_arguments rows a) (KeyIsKnown rows a) (AnswersValue a)
    (λ m left. ap returns_of left.2 ∙ returns-with_answer a (kind.MapValueOrNull m.index left.0)) h
returns-helps rows a b (Some MapUpdateElem) h =
    returns-leaves_if a b (update_arguments rows a)
    (λ m. KeyIsKnown rows a m × ValueIsKnown rows a m) (λ m. AnswersNumber a)
    (λ m left. returns-number a b left) h
returns-helps rows a b (Some MapDeleteElem) h =
    returns-leaves_if a b (key_arguments rows a) (KeyIsKnown rows a)
    (λ m. AnswersNumber (without_values m.row.kind m.index a))
    (λ m left. returns-number (without_values m.row.kind m.index a) b left
    ∙ returns-without_values m.row.kind m.index a) h
returns-helps rows a b (Some KtimeGetNs) h = returns-number a b h.1
returns-helps rows a b None h = absurd (cc)

-- the call of a helper
pub returns-calls_helper : (rows : List MapDef) (a b : State) (number : ℤ)
    → CallsHelper rows a number b (Ok tt) → returns_of b ≡ returns_of a
returns-calls_helper rows a b number h = returns-helps rows a b (helper_numbered number) h
