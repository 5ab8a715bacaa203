-- The byte and the stack slot of a call frame at a place, by what `byte_of` returns of it.
use Rattle.control_flow.proofs.Common.{◌≡◌, ℕ, ◌*◌, ◌/◌, ◌%◌, ◌<◌, Option, Some, sym, ap, ◌∙◌, arith, inl, inr, ◌↔◌, ℤ, pos, ◌-ℤ◌, same_Some, Reg, R10, Place, IsByte, IsWithinSlot, IsWholeSlot, MayBeInSlot}
use Rattle.isa_model.specs.Code.Limits.{stack_size}
use Rattle.isa_model.specs.MustAccept.Determined.{stack_slot_offset}

abbrev some_number : ℕ → Option ℕ
some_number n = Some n

-- the byte is this one, and no other
abbrev OnlyByte : Place → Option ℕ → Type 0
OnlyByte place o = (n : ℕ) → (o ≡ Some n) ↔ IsByte place n

pub byte_below : (place : Place) (o : Option ℕ) (byte : ℕ) → o ≡ Some byte → OnlyByte place o
    → byte < stack_size
byte_below place o byte is only = ((only byte).0 is).0

pub within_some : (place : Place) (o : Option ℕ) (byte : ℕ) → o ≡ Some byte → OnlyByte place o
    → (j : ℕ) → (some_number (byte / 8) ≡ Some j) ↔ IsWithinSlot place j
within_some place o byte is only j = (
  λ e. let same : byte / 8 ≡ j = same_Some (byte / 8) j e in
      (byte, (only byte).0 is, omega (arith, same), omega (arith, same)),
  λ (n, there, low, high).
      let same : byte ≡ n = same_Some byte n (sym is ∙ (only n).1 there) in
      let at : byte / 8 ≡ j = omega (arith, same, low, high) in
      ap some_number at,
)

pub within_below : (place : Place) (j : ℕ) → IsWithinSlot place j → j < 64
within_below place j (n, is, low, high) = let inside = is.0 in omega arith

-- ---- places that may be in a stack slot

-- with the base r10 it is where its offset says
pub based_slots : (A : Type 0) (place : Place) (o : Option ℕ) (Has : ℕ → Type 0) → place.base ≡ R10
    → ((j : ℕ) → Has j ↔ (o ≡ Some j)) → ((j : ℕ) → (o ≡ Some j) ↔ IsWithinSlot place j) → (j : ℕ)
    → Has j ↔ MayBeInSlot A place j
based_slots A place o Has base has within j = (
  λ h. inl ((within j).0 ((has j).0 h)),
  λ may. (has j).1 ((within j).1 (based may)),
) where
  based : MayBeInSlot A place j → IsWithinSlot place j
  based (inl within) = within
  based (inr (other, below, taken)) = absurd (other base)

-- ---- whole stack slots

abbrev made : Reg → ℤ → Place
made base offset = record { base = base; offset = offset }

place_is : (place : Place) (base : Reg) (offset : ℤ) → place.base ≡ base → place.offset ≡ offset
    → place ≡ made base offset
place_is place base offset b o =
    ap (λ (r : Reg). made r place.offset) b ∙ ap (λ (z : ℤ). made base z) o

whole_byte : (place : Place) (o : Option ℕ) (j : ℕ) → OnlyByte place o → IsWholeSlot place j
    → o ≡ Some (8 * j)
whole_byte place o j only (below, is) =
    (only (8 * j)).1
    (omega (arith, below), ap (λ (q : Place). q.base) is, ap (λ (q : Place). q.offset) is)

pub whole_some : (place : Place) (o : Option ℕ) (byte : ℕ) → o ≡ Some byte → OnlyByte place o
    → byte % 8 ≡ 0 → (j : ℕ) → (some_number (byte / 8) ≡ Some j) ↔ IsWholeSlot place j
whole_some place o byte is only aligned j = (
  λ e.
      let same : byte / 8 ≡ j = same_Some (byte / 8) j e in
      let (below, base, offset) = (only byte).0 is in
      let at : byte ≡ 8 * j = omega (arith, same, aligned) in (
        omega (arith, at, below),
        place_is place R10 (stack_slot_offset j) base
            (offset ∙ ap (λ (n : ℕ). pos n -ℤ pos stack_size) at),
      ),
  λ whole.
      let same : byte ≡ 8 * j = same_Some byte (8 * j) (sym is ∙ whole_byte place o j only whole) in
      let at : byte / 8 ≡ j = omega (arith, same) in
      ap some_number at,
)
