-- Parts of a state that stores, atomic instructions, calls of helpers and changes of kinds leave as
-- they are.
use Rattle.rechecking.proofs.Common.{◌≡◌, ℕ, zero, suc, ◌<◌, ◌==◌, ◌||◌, if◌then◌else◌, Bool, true, false, ℤ, List, [], ◌∷◌, length, map, slice_get, slice_set, Option, Some, None, Result, Ok, Err, inl, sym, ap, ◌∙◌, subst, length-set, arith, slice_get-map, Kind, Number, Stack, Map, MapValue, MapValueOrNull, StackSlot, AbstractFrame, State, abstract_frame_at, with_slots, with_frame_slots, with_kinds, map_frames, map_kinds, forgotten_frame, Refusal, Forgets, is_kind_kept, AreSlotsUnchanged, IsFrameUnchanged, LeavesParts}
use Rattle.std.specs.Prelude.{refl}
use Rattle.std.specs.Option.{option_map}
use Rattle.std.proofs.lemmas.List.{length-map}
use Rattle.arrayvec.specs.ArrayVec.{with_item}
use Rattle.isa_model.specs.declared.sizes.Size.{Size}
use Rattle.isa_model.specs.declared.sizes.Size.TheVariants.{U64}
use Rattle.isa_model.specs.declared.registers.Reg.{Reg}
use Rattle.isa_model.specs.declared.registers.Reg.TheVariants.{R0, R1, R2}
use Rattle.isa_model.specs.declared.helpers.Helper.{Helper}
use Rattle.isa_model.specs.declared.helpers.Helper.TheVariants.{MapLookupElem, MapUpdateElem, MapDeleteElem, KtimeGetNs}
use Rattle.isa_model.specs.declared.map_defs.MapDef.{MapDef}
use Rattle.isa_model.specs.declared.map_defs.MapType.{MapType}
use Rattle.isa_model.specs.declared.map_defs.MapType.TheVariants.{Hash, Array}
use Rattle.reg_state.specs.declared.scalars.Scalar.{Scalar}
use Rattle.reg_state.specs.declared.kinds.Kind.TheVariants as kind
use Rattle.stack_state.specs.Places.{kind_of}
use Rattle.stack_state.specs.HelperAnswers.{with_answer}
use Rattle.transfer.specs.declared.helpers.CalledMap.{CalledMap}
use Rattle.transfer.specs.Refusing.{is_untested}
use Rattle.transfer.specs.Accesses.{StoresKind}
use Rattle.transfer.specs.StackAccesses.{IsLeft}
use Rattle.transfer.specs.Atomics.{with_old, SwapsAt, Swaps, ComparesIn}
use Rattle.transfer.specs.HelperCalls.{map_with_row, called_map, points_to_bytes, key_arguments, update_arguments, KeyIsKnown, ValueIsKnown, AnswersNumber, AnswersValue, without_values, LeavesIf, StepsHelper}
use Rattle.transfer.proofs.HelperArgumentLaws.{judged_map}
use Rattle.rechecking.specs.declared.changes.KindChange.{KindChange}
use Rattle.rechecking.specs.declared.untouched.UntouchedParts.{UntouchedParts}
use Rattle.rechecking.specs.Untouched.{none_kept, outer_kept, kept_by_write, KeptByDelete, KeptByHelper, KeepsOuterFrames, KeepsParts}
use Rattle.rechecking.proofs.ChangeLaws.{frame_kept, slots_kept, forgotten_frame_kept, forgotten_slots_kept}

pub same_frames : (n : ℕ) (a b : State) → b.callers ≡ a.callers → KeepsOuterFrames n a b
same_frames n a b same =
    λ j f less at. (f, ap (λ c. slice_get c.items j) (sym same) ∙ at, inl refl)

pub nothing_kept : (a b : State) → KeepsParts none_kept a b
nothing_kept a b =
    record { frames = λ j f less at. absurd (omega arith); slots = λ no. absurd (cc) }

-- any parts are kept where outer call frames and stack slots are as they were
pub all_kept : (parts : UntouchedParts) (a b : State) → b.callers ≡ a.callers
    → b.innermost.stack ≡ a.innermost.stack → KeepsParts parts a b
all_kept parts a b same stack = record {
  frames = same_frames parts.frames a b same;
  slots = λ yes. (ap (λ c. length c.items) same, ap (λ s. s.slots) stack);
}

pub same_kept : (parts : UntouchedParts) (a b : State) → b ≡ a → KeepsParts parts a b
same_kept parts a b is = all_kept parts a b (ap (λ s. s.callers) is)
    (ap (λ s. s.innermost.stack) is)

pub mapped_some : {X Y : Type 0} (g : X → Y) (o : Option X) (y : Y) → option_map g o ≡ Some y
    → (x : X) × (o ≡ Some x) × (y ≡ g x)
mapped_some g (Some x) y h = (x, refl, cc)
mapped_some g None y h = absurd (cc)

-- ---- changes of kinds

-- outer frames and stack slots after a change of kinds that leaves them
pub changed_kept : (change : KindChange) (g : AbstractFrame → AbstractFrame)
    → ((f : AbstractFrame) → IsFrameUnchanged change f → g f ≡ f)
    → ((f : AbstractFrame) → AreSlotsUnchanged change f.stack.slots
    → (g f).stack.slots ≡ f.stack.slots)
    → (a : State) (parts : UntouchedParts) → LeavesParts change a parts
    → KeepsParts parts a (map_frames g a)
changed_kept change g frame slots a parts h = record {
  frames = λ j f less at.
      let found =
      mapped_some g (slice_get a.callers.items j) f (sym (slice_get-map g a.callers.items j) ∙ at)
      in
      (found.0, found.1, inl (found.2 ∙ frame found.0 (h.0 j found.0 less found.1)));
  slots = λ yes. (length-map a.callers.items g, slots a.innermost (h.1 yes));
}

pub kinds_kept : (change : KindChange) (g : Kind → Kind)
    → ((k : Kind) → is_kind_kept change k ≡ true → g k ≡ k)
    → (a : State) (parts : UntouchedParts) → LeavesParts change a parts
    → KeepsParts parts a (map_kinds g a)
kinds_kept change g same a parts h =
    changed_kept change (with_kinds g) (frame_kept change g same)
    (λ f kept. slots_kept change g same f.stack.slots kept) a parts h

-- ---- stores and atomic instructions

set_later : {X : Type 0} (xs : List X) (i j : ℕ) (y : X) → j < i
    → slice_get (slice_set xs i y) j ≡ slice_get xs j
set_later [] i j y less = refl
set_later (x ∷ xs) zero j y less = absurd (omega arith)
set_later (x ∷ xs) (suc i) zero y less = refl
set_later (x ∷ xs) (suc i) (suc j) y less = set_later xs i j y (omega arith)

-- what is kept where a call frame gets other stack slots
frame_written : (a b : State) (frame : ℕ) (offset : ℤ) (slots : List StackSlot)
    → b ≡ with_frame_slots a frame slots → KeepsParts (kept_by_write a (Stack frame offset)) a b
frame_written a b frame offset slots is = of (frame == length a.callers.items) refl where
  f : AbstractFrame
  f = with_slots (abstract_frame_at a frame) slots

  of : (t : Bool) → (frame == length a.callers.items) ≡ t
      → KeepsParts (if t then outer_kept a false else record { frames = frame; slots = true }) a b
  of true e =
      let there : b ≡ record a { innermost = f } = is ∙ rw e refl in
      record {
        frames = same_frames (length a.callers.items) a b (ap (λ s. s.callers) there);
        slots = λ no. absurd (cc);
      }
  of false e =
      let there : b ≡ record a { callers = with_item a.callers frame f } = is ∙ rw e refl in
      record {
        frames = λ j g less at. (
          g,
          sym (set_later a.callers.items frame j f less)
              ∙ ap (λ s. slice_get s.callers.items j) (sym there) ∙ at,
          inl refl,
        );
        slots = λ yes. (
          ap (λ s. length s.callers.items) there ∙ length-set a.callers.items frame f,
          ap (λ s. s.innermost.stack.slots) there,
        );
      }

left_kept : (a b : State) (frame at : ℕ) (size : Size) (source : Kind) (offset : ℤ)
    → IsLeft a frame at size source b → KeepsParts (kept_by_write a (Stack frame offset)) a b
left_kept a b frame at U64 source offset h = frame_written a b frame offset _ h.left
left_kept a b frame at size (Number numbers) offset h = frame_written a b frame offset _ h.left
left_kept a b frame at size source offset h = frame_written a b frame offset _ h.left

pub store_kept : (rows : List MapDef) (a left : State) (size : Size) (base : Kind) (by : ℤ)
    (source : Kind) → StoresKind rows a size base by source left (Ok tt)
    → KeepsParts (kept_by_write a base) a left
store_kept rows a left size (Stack frame z) by source h =
    left_kept a left frame h.0 size source z h.3
store_kept rows a left size base by source h = same_kept (kept_by_write a base) a left h.0

-- the old number in a register
old_kept : (parts : UntouchedParts) (register : Option Reg) (old : Scalar) (a b : State)
    → KeepsParts parts a b → KeepsParts parts a (with_old register old b)
old_kept parts None old a b h = h
old_kept parts (Some register) old a b h = record { frames = h.frames; slots = h.slots }

swap_kept : (rows : List MapDef) (a b : State) (base : Kind) (by : ℤ) (size : Size)
    (register : Option Reg) → SwapsAt rows a base by size register b (Ok tt)
    → KeepsParts (kept_by_write a base) a b
swap_kept rows a b (Stack frame z) by size register (at, place, h) =
    subst (KeepsParts (kept_by_write a (Stack frame z)) a) (sym h.kept)
    (old_kept (kept_by_write a (Stack frame z)) register h.old a h.after
    (frame_written a h.after frame z _ h.stored.left))
swap_kept rows a b (MapValue m least greatest) by size register (inside, left) =
    let parts = kept_by_write a (MapValue m least greatest) in
    subst (KeepsParts parts a) (sym left.2)
    (old_kept parts register left.0 a a (same_kept parts a a refl))
swap_kept rows a b (kind.Packet fixed identity least greatest proved) by size register (e, is, h) =
    same_kept (kept_by_write a (kind.Packet fixed identity least greatest proved)) a b h.0
swap_kept rows a b base by size register h = same_kept (kept_by_write a base) a b h.0

pub numbers_kept : (rows : List MapDef) (a b : State) (source base : Kind) (by : ℤ) (size : Size)
    (register : Option Reg) → Swaps rows a source base by size register b (Ok tt)
    → KeepsParts (kept_by_write a base) a b
numbers_kept rows a b (Number numbers) base by size register h =
    swap_kept rows a b base by size register h
numbers_kept rows a b source base by size register h =
    same_kept (kept_by_write a base) a b h.0

pub compare_kept : (rows : List MapDef) (a b : State) (expected source base : Kind) (by : ℤ)
    (size : Size) → ComparesIn rows a expected source base by size b (Ok tt)
    → KeepsParts (kept_by_write a base) a b
compare_kept rows a b (Number numbers) source base by size h =
    numbers_kept rows a b source base by size (Some R0) h
compare_kept rows a b expected source base by size h =
    same_kept (kept_by_write a base) a b h.0

-- ---- helpers

answered_kept : (parts : UntouchedParts) (a b c : State) (k : Kind) → b ≡ with_answer c k
    → KeepsParts parts a c → KeepsParts parts a b
answered_kept parts a b c k is h =
    let after : KeepsParts parts a (with_answer c k) =
    record { frames = h.frames; slots = h.slots } in
    subst (KeepsParts parts a) (sym is) after

leaves_kept : (parts : UntouchedParts) (a b : State) (map : Result CalledMap Refusal)
    (Known : CalledMap → Type 0) (leaves : CalledMap → State → Type 0)
    → ((m : CalledMap) → map ≡ Ok m → leaves m b → KeepsParts parts a b)
    → LeavesIf map Known leaves b (Ok tt) → KeepsParts parts a b
leaves_kept parts a b (Ok m) Known leaves each h = each m refl h.1
leaves_kept parts a b (Err e) Known leaves each h = absurd (cc)

without_kept : (kind : MapType) (m : ℕ) (a : State) (parts : UntouchedParts)
    → LeavesParts (Forgets m) a parts → KeepsParts parts a (without_values kind m a)
without_kept Hash m a parts h =
    changed_kept (Forgets m) (forgotten_frame m) (forgotten_frame_kept m)
    (λ f kept. forgotten_slots_kept m f.stack.slots kept) a parts h
without_kept Array m a parts h = same_kept parts a a refl

row_index : (j : ℕ) (o : Option MapDef) (m : CalledMap) → map_with_row j o ≡ Ok m → m.index ≡ j
row_index j (Some row) m is =
    let called : CalledMap = record { index = j; row = row } in
    let same : called ≡ m = cc in
    ap (λ (c : CalledMap). c.index) (sym same)
row_index j None m is = absurd (cc)

deleted_kept : (rows : List MapDef) (a b : State) (m : CalledMap) (map : Kind)
    (parts : UntouchedParts) → called_map rows map ≡ Ok m → KeptByDelete a map parts
    → AnswersNumber (without_values m.row.kind m.index a) b → KeepsParts parts a b
deleted_kept rows a b m (Map j) parts is kept left =
    let named = row_index j (slice_get rows j) m is in
    answered_kept parts a b (without_values m.row.kind m.index a) left.0 left.2
    (without_kept m.row.kind m.index a parts
    (subst (λ (n : ℕ). LeavesParts (Forgets n) a parts) (sym named) kept))
deleted_kept rows a b m map parts is kept left = absurd (cc)

number_kept : (parts : UntouchedParts) (a b : State) → AnswersNumber a b → KeepsParts parts a b
number_kept parts a b left =
    answered_kept parts a b a left.0 left.2 (same_kept parts a a refl)

pub helper_kept : (rows : List MapDef) (a b : State) (helper : Option Helper)
    (parts : UntouchedParts) → KeptByHelper a helper parts → StepsHelper rows a helper b (Ok tt)
    → KeepsParts parts a b
helper_kept rows a b (Some MapLookupElem) parts kept h =
    leaves_kept parts a b (key_arguments rows a) (KeyIsKnown rows a) (AnswersValue a)
    (λ m is left. answered_kept parts a b a (MapValueOrNull m.index left.0) left.2
    (same_kept parts a a refl)) h
helper_kept rows a b (Some MapUpdateElem) parts kept h =
    leaves_kept parts a b (update_arguments rows a)
    (λ m. KeyIsKnown rows a m × ValueIsKnown rows a m) (λ m. AnswersNumber a)
    (λ m is left. number_kept parts a b left) h
helper_kept rows a b (Some MapDeleteElem) parts kept h =
    leaves_kept parts a b (key_arguments rows a) (KeyIsKnown rows a)
    (λ m. AnswersNumber (without_values m.row.kind m.index a))
    (λ m is left. deleted_kept rows a b m (kind_of a R1) parts
    (judged_map (is_untested (kind_of a R1) || is_untested (kind_of a R2))
    (points_to_bytes (kind_of a R2)) (called_map rows (kind_of a R1)) m is).0 kept left) h
helper_kept rows a b (Some KtimeGetNs) parts kept h = number_kept parts a b h.1
helper_kept rows a b None parts kept h = absurd (cc)
