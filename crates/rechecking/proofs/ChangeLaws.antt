-- What a change of kinds leaves as it is.
use Rattle.rechecking.proofs.Common.{◌≡◌, ℕ, suc, ◌+◌, ◌≤◌, ◌==◌, nat_le, ◌||◌, not, Bool, true, false, if◌then◌else◌, List, [], ◌∷◌, length, map, max, slice_get, Some, inl, inr, ap, subst, arith, cases_eq, Kind, Packet, MapValue, MapValueOrNull, StackSlot, AbstractFrame, with_spilled, with_kinds, proved_kind, tested_value, tested_kind, forgotten_register, forgotten_frame, Proves, Tests, Forgets, is_kind_kept, is_slot_kept, FirstHave, AreSlotsUnchanged, IsFrameUnchanged}
use Rattle.std.specs.Prelude.{refl}
use Rattle.std.proofs.lemmas.Bool.Decides.{nat_tests}
use Rattle.reg_state.specs.declared.scalars.Scalar.{Scalar}
use Rattle.stack_state.specs.declared.slots.StackSlot.TheVariants.{Written, Spilled}
use Rattle.stack_state.specs.Slots.{kind_in, forgotten_kind, forgotten_slot, forgotten}
use Rattle.rechecking.specs.declared.changes.KindChange.{KindChange}

-- ---- the first elements

-- one more has the property
pub FirstHave-next : {X : Type 0} (P : X → Type 0) (i : ℕ) (xs : List X) (x : X)
    → slice_get xs i ≡ Some x → P x → FirstHave P i xs → FirstHave P (i + 1) xs
FirstHave-next P i xs x at has before = λ k y less there. elim (cases_eq k i) [
  | inl same ↦ let one : x ≡ y = cc in subst P one has
  | inr other ↦ before k y (omega arith) there
]

-- fewer
pub FirstHave-fewer : {X : Type 0} (P : X → Type 0) (n m : ℕ) (xs : List X) → n ≤ m
    → FirstHave P m xs → FirstHave P n xs
FirstHave-fewer P n m xs few h = λ k x less there. h k x (omega arith) there

map_same : {X : Type 0} (g : X → X) (P : X → Type 0) (xs : List X)
    → ((x : X) → P x → g x ≡ x) → FirstHave P (length xs) xs → map g xs ≡ xs
map_same g P [] same h = refl
map_same g P (x ∷ xs) same h =
    let first : g x ≡ x = same x (h 0 x (omega arith) refl) in
    let others : map g xs ≡ xs =
    map_same g P xs same (λ k y less there. h (suc k) y (omega arith) there) in
    rw (first, others) refl

-- ---- kinds

if_not : {X : Type 0} (t : Bool) (x y : X) → not t ≡ true → (if t then x else y) ≡ y
if_not true x y h = absurd (cc)
if_not false x y h = refl

no_more_proved : (t : Bool) (n proved : ℕ) → (not t || nat_le n proved) ≡ true
    → (if t then max proved n else proved) ≡ proved
no_more_proved true n proved h = let few : n ≤ proved = grind (arith, nat_tests) in omega arith
no_more_proved false n proved h = refl

pub proved_kind-kept : (i n : ℕ) (k : Kind) → is_kind_kept (Proves i n) k ≡ true
    → proved_kind i n k ≡ k
proved_kind-kept i n (Packet fixed identity least greatest proved) h =
    ap (λ (m : ℕ). Packet fixed identity least greatest m)
    (no_more_proved (identity == i) n proved h)
proved_kind-kept i n k h = refl

pub tested_kind-kept : (i : ℕ) (null : Bool) (zeros : Scalar) (k : Kind)
    → is_kind_kept (Tests i) k ≡ true → tested_kind i null zeros k ≡ k
tested_kind-kept i null zeros (MapValueOrNull m identity) h =
    if_not (identity == i) (tested_value null zeros m) (MapValueOrNull m identity) h
tested_kind-kept i null zeros k h = refl

forgotten_kind-kept : (m : ℕ) (k : Kind) → is_kind_kept (Forgets m) k ≡ true
    → forgotten_kind m k ≡ Spilled k
forgotten_kind-kept m (MapValue index least greatest) h =
    if_not (index == m) (Written 0) (Spilled (MapValue index least greatest)) h
forgotten_kind-kept m (MapValueOrNull index identity) h =
    if_not (index == m) (Written 0) (Spilled (MapValueOrNull index identity)) h
forgotten_kind-kept m k h = refl

-- ---- frames

spilled_kept : (change : KindChange) (g : Kind → Kind)
    → ((k : Kind) → is_kind_kept change k ≡ true → g k ≡ k)
    → (s : StackSlot) → is_slot_kept change s ≡ true → with_spilled g s ≡ s
spilled_kept change g same (Written marks) h = refl
spilled_kept change g same (Spilled k) h = ap Spilled (same k h)

forgotten_kept : (m : ℕ) (s : StackSlot) → is_slot_kept (Forgets m) s ≡ true
    → forgotten_slot m s ≡ s
forgotten_kept m (Written marks) h = refl
forgotten_kept m (Spilled k) h = forgotten_kind-kept m k h

same_frame : (f : AbstractFrame) (kinds : List Kind) (slots : List StackSlot)
    → kinds ≡ f.registers → slots ≡ f.stack.slots
    → record f { registers = kinds; stack = record { slots = slots } } ≡ f
same_frame f kinds slots h k = rw (h, k) refl

pub slots_kept : (change : KindChange) (g : Kind → Kind)
    → ((k : Kind) → is_kind_kept change k ≡ true → g k ≡ k)
    → (slots : List StackSlot) → AreSlotsUnchanged change slots → map (with_spilled g) slots ≡ slots
slots_kept change g same slots h =
    map_same (with_spilled g) (λ s. is_slot_kept change s ≡ true) slots
    (spilled_kept change g same) h

pub frame_kept : (change : KindChange) (g : Kind → Kind)
    → ((k : Kind) → is_kind_kept change k ≡ true → g k ≡ k)
    → (f : AbstractFrame) → IsFrameUnchanged change f → with_kinds g f ≡ f
frame_kept change g same f h =
    same_frame f (map g f.registers) (map (with_spilled g) f.stack.slots)
    (map_same g (λ k. is_kind_kept change k ≡ true) f.registers same h.0)
    (slots_kept change g same f.stack.slots h.1)

pub forgotten_slots_kept : (m : ℕ) (slots : List StackSlot) → AreSlotsUnchanged (Forgets m) slots
    → forgotten m slots ≡ slots
forgotten_slots_kept m slots h =
    map_same (forgotten_slot m) (λ s. is_slot_kept (Forgets m) s ≡ true) slots (forgotten_kept m) h

pub forgotten_frame_kept : (m : ℕ) (f : AbstractFrame) → IsFrameUnchanged (Forgets m) f
    → forgotten_frame m f ≡ f
forgotten_frame_kept m f h =
    same_frame f (map (forgotten_register m) f.registers) (forgotten m f.stack.slots)
    (map_same (forgotten_register m) (λ k. is_kind_kept (Forgets m) k ≡ true) f.registers
    (λ k kept. ap kind_in (forgotten_kind-kept m k kept)) h.0)
    (forgotten_slots_kept m f.stack.slots h.1)
