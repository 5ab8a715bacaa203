-- Numbers in the stack slots of a state, loaded and stored whole.
use Rattle.walks.proofs.Common.{◌≡◌, ◌*◌, ◌<◌, ℕ, Some, None, Ok, Err, true, List, length, arith, refl, sym, ap, ◌∙◌, subst, inl, ◌≢◌, ◌/◌, pos, ◌+ℤ◌, ◌==◌, slice_set, ints, length-set, get_or-set_same, get_or-set_other, U64, Reg, R10, stack_slot_offset, Kind, Number, StackSlot, Written, Spilled, State, registers_of, stack_slots_of, abstract_frame_at-innermost, slot_at, kind_in, IsSpill, IsFill, kind_of, IsNumberKind, IsJust, Refusal, StackPlace, StackBytes}
use Rattle.std.proofs.lemmas.Bool.Decides.{nat_tests}
use Rattle.isa_model.specs.Code.Limits.{stack_size}
use Rattle.reg_state.proofs.ConstantsLaws.{IsNumber-only}
use Rattle.stack_state.specs.FramePlaces.{IsPlace}
use Rattle.stack_state.specs.Effects.{with_slots, with_frame_slots}
use Rattle.transfer.specs.StackAccesses.{IsFramePlace, store_refusal, StackLoads, StackStores, IsStoreRefused}

-- stack slot j of the innermost call frame holds this number, known as a constant
abbrev pub SlotHolds : State → ℕ → ℕ → Type 0
SlotHolds s j y = IsJust (kind_in (slot_at s.innermost.stack.slots j)) y

abbrev last_index : State → ℕ
last_index s = length s.callers.items

-- ---- places

slots_here : (s : State) → stack_slots_of s (last_index s) ≡ s.innermost.stack.slots
slots_here s = ap (λ f. f.stack.slots) (abstract_frame_at-innermost s)

starts_at : (j : ℕ) → (pos 0 +ℤ stack_slot_offset j) +ℤ pos stack_size ≡ pos (8 * j)
starts_at j = omega (arith, ints)

slot_of_place : (j at : ℕ) → IsPlace (pos 0 +ℤ stack_slot_offset j) U64 at → at / 8 ≡ j
slot_of_place j at place =
    let same : pos at ≡ pos (8 * j) = sym place.from_start ∙ starts_at j in
    let here : at ≡ 8 * j = cc same in
    omega (arith, here)

place_there : (s : State) (j : ℕ) → j < 64
    → IsFramePlace s (last_index s) (pos 0 +ℤ stack_slot_offset j) U64 (8 * j)
place_there s j below =
    record {
      live = omega arith;
      place = record {
        from_start = starts_at j;
        inside = omega (arith, below);
        aligned = omega arith;
      };
    }

-- ---- loads

fill_just : (stack_slot : StackSlot) (k : Kind) (y : ℕ) → IsFill stack_slot (Some k)
    → IsJust (kind_in stack_slot) y → IsJust k y
fill_just (Written marks) k y h just = absurd just
fill_just (Spilled (Number c)) k y h just =
    let same : k ≡ Number c = cc h in subst (λ x. IsJust x y) (sym same) just
fill_just (Spilled other) k y h just = absurd just

fill_some : (stack_slot : StackSlot) (y : ℕ) → IsFill stack_slot None
    → IsJust (kind_in stack_slot) y → ⊥
fill_some (Written marks) y h just = just
fill_some (Spilled (Number c)) y h just = absurd (cc h)
fill_some (Spilled other) y h just = just

held_at : (s : State) (j y at : ℕ) → at / 8 ≡ j → SlotHolds s j y
    → IsJust (kind_in (slot_at (stack_slots_of s (last_index s)) (at / 8))) y
held_at s j y at same held =
    subst (λ n. IsJust (kind_in (slot_at (stack_slots_of s (last_index s)) n)) y) (sym same)
    (subst (λ (slots : List StackSlot). IsJust (kind_in (slot_at slots j)) y)
    (sym (slots_here s)) held)

-- what is loaded is the number
pub load_just : (s : State) (j y : ℕ) (k : Kind) → SlotHolds s j y
    → StackLoads s (last_index s) (pos 0 +ℤ stack_slot_offset j) U64 (Ok k) → IsJust k y
load_just s j y k held h =
    let same = slot_of_place j h.0 h.1.place in
    fill_just (slot_at (stack_slots_of s (last_index s)) (h.0 / 8)) k y h.2
    (held_at s j y h.0 same held)

-- and the load is not refused
pub load_goes : (s : State) (j y : ℕ) (e : Refusal) → j < 64 → SlotHolds s j y
    → StackLoads s (last_index s) (pos 0 +ℤ stack_slot_offset j) U64 (Err e) → ⊥
load_goes s j y StackPlace below held h = h (8 * j) (place_there s j below)
load_goes s j y StackBytes below held h =
    let same = slot_of_place j h.0 h.1.place in
    fill_some (slot_at (stack_slots_of s (last_index s)) (h.0 / 8)) y h.2
    (held_at s j y h.0 same held)
load_goes s j y e below held h = absurd h

-- ---- stores

spill_just : (source : Kind) (stack_slot : StackSlot) (y : ℕ) → IsSpill source stack_slot
    → IsJust source y → IsJust (kind_in stack_slot) y
spill_just (Number c) (Spilled k) y h just = subst (λ x. IsJust x y) (sym h.0) just
spill_just (Number c) (Written marks) y h just =
    let none : 0 ≡ y = IsNumber-only c y 0 (inl just.1.0) (h.1 0 (omega arith)) in
    let one : 1 ≡ y = IsNumber-only c y 1 (inl just.1.0) (h.1 1 (omega arith)) in
    absurd (omega (arith, none, one))
spill_just source stack_slot y h just = absurd just

-- the number is in the stack slot, and all else is as before
pub record PutsSlot (s t : State) (j y : ℕ) : Type 0 where
  pub slot : t.slot ≡ s.slot
  pub callers : t.callers ≡ s.callers
  pub room : length (registers_of t) ≡ length (registers_of s)
  pub kinds : (q : Reg) → kind_of t q ≡ kind_of s q
  pub all_slots : length t.innermost.stack.slots ≡ length s.innermost.stack.slots
  pub there : SlotHolds t j y
  pub others : (k z : ℕ) → k ≢ j → SlotHolds s k z → SlotHolds t k z

abbrev with_own : State → List StackSlot → State
with_own s slots = record s { innermost = with_slots s.innermost slots }

kinds_stay : (s : State) (slots : List StackSlot) (q : Reg)
    → kind_of (with_own s slots) q ≡ kind_of s q
kinds_stay s slots R10 = refl
kinds_stay s slots q = refl

own_slots : (s : State) (slots : List StackSlot)
    → with_frame_slots s (last_index s) slots ≡ with_own s slots
own_slots s slots =
    let same : (last_index s == last_index s) ≡ true = grind (arith, nat_tests) in
    rw (same, abstract_frame_at-innermost s) refl

puts_in : (s : State) (j y : ℕ) (stack_slot : StackSlot) → j < length s.innermost.stack.slots
    → IsJust (kind_in stack_slot) y
    → PutsSlot s (with_own s (slice_set s.innermost.stack.slots j stack_slot)) j y
puts_in s j y stack_slot below just = record {
  slot = refl;
  callers = refl;
  room = refl;
  kinds = λ q. kinds_stay s (slice_set s.innermost.stack.slots j stack_slot) q;
  all_slots = length-set s.innermost.stack.slots j stack_slot;
  there =
      subst (λ x. IsJust (kind_in x) y)
      (sym (get_or-set_same s.innermost.stack.slots j stack_slot (Written 0) below)) just;
  others = λ k z other held.
      subst (λ x. IsJust (kind_in x) z)
      (sym (get_or-set_other s.innermost.stack.slots j k stack_slot (Written 0) other)) held;
}

pub store_puts : (s left : State) (j y : ℕ) (source : Kind) → j < length s.innermost.stack.slots
    → IsJust source y → StackStores s (last_index s) (pos 0 +ℤ stack_slot_offset j) U64 source left
    (Ok tt)
    → PutsSlot s left j y
store_puts s left j y source below just h =
    let same = slot_of_place j h.0 h.1.place in
    let spilled = h.3 in
    let stack_slot = spilled.slot in
    let list : slice_set (stack_slots_of s (last_index s)) (h.0 / 8) stack_slot
    ≡ slice_set s.innermost.stack.slots j stack_slot =
    ap (λ n. slice_set (stack_slots_of s (last_index s)) n stack_slot) same
    ∙ ap (λ (slots : List StackSlot). slice_set slots j stack_slot) (slots_here s) in
    let is : left ≡ with_own s (slice_set s.innermost.stack.slots j stack_slot) =
    spilled.left ∙ ap (with_frame_slots s (last_index s)) list
    ∙ own_slots s (slice_set s.innermost.stack.slots j stack_slot) in
    subst (λ t. PutsSlot s t j y) (sym is)
    (puts_in s j y stack_slot below (spill_just source stack_slot y spilled.spill just))

numbers_stored : (s : State) (n : ℕ) (source : Kind) → IsNumberKind source
    → store_refusal s n U64 source ≡ None
numbers_stored s n (Number c) number = refl
numbers_stored s n source number = absurd number

-- a store of a number is not refused
pub store_goes : (s left : State) (j : ℕ) (source : Kind) (e : Refusal) → j < 64
    → IsNumberKind source
    → StackStores s (last_index s) (pos 0 +ℤ stack_slot_offset j) U64 source left (Err e) → ⊥
store_goes s left j source e below number h = of e h.1 where
  of : (e : Refusal) → IsStoreRefused s (last_index s) (pos 0 +ℤ stack_slot_offset j) U64 source e
      → ⊥
  of StackPlace h = h (8 * j) (place_there s j below)
  of e h = let stored = numbers_stored s (last_index s) source number in absurd (cc (h.2, stored))
