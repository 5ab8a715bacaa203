-- Masks: what each of their methods does, register by register and stack slot by stack slot.
use Rattle.control_flow.proofs.Common.{◌≡◌, ℕ, Bool, true, false, not, nat_eq, Option, Some, ◌+◌, ◌-◌, ◌*◌, ◌/◌, ◌^◌, ◌%◌, ◌<◌, ◌≤◌, replicate, sym, ap, ◌∙◌, arith, inl, inr, bit_or, bit_and, bit_xor, w16, w64, ◌↔◌, ◌⊎◌, ◌≢◌, IsTrue, max, min, cases_lt, cases_eq, eqb-false, ne_eqb, not-true, not_from_false, iff_false, shr-shr, and_le_r, same_Some, length-replicate, get_or-replicate, get_or_past, Reg, reg_number, RegisterMask, HomeMask, Home, InRegister, InSlot, no_registers, HasRegister, no_slots, HasSlot, no_homes, HasHome, mask_at}
use Rattle.std.specs.Int.{bit_at, trailing_zeros}
use Rattle.std.proofs.lemmas.Nat.Bits.{bit_at-zero, bit_at_ones, bit_at_ones_above, bit_at_above, bit_at-lt, bit_at_or, bit_at_and, bit_at_xor, bit_at_set_same, bit_at_set_other, bit_at-trailing_zeros}
use Rattle.isa_model.proofs.RegisterLaws.{same_number, reg_number-below}
use Rattle.control_flow.specs.declared.slot_masks.SlotMask.{SlotMask}
use Rattle.control_flow.proofs.RegisterLaws.{numbered}

-- ---- one register more

with_bit : (old n k : ℕ) → n < 16
    → (bit_at (bit_or old (1 * 2 ^ n % 2 ^ 16)) k ≡ 1) ↔ ((bit_at old k ≡ 1) ⊎ (k ≡ n))
with_bit old n k within = elim (cases_eq k n) [
  | inl e ↦ (
    λ h. inr e,
    λ w. ap (λ (i : ℕ). bit_at (bit_or old (1 * 2 ^ n % 2 ^ 16)) i) e
        ∙ bit_at_set_same w16 old n within,
  )
  | inr other ↦ (
    λ h. inl (sym (bit_at_set_other w16 old n within k other) ∙ h),
    λ w. elim w [
      | inl h ↦ bit_at_set_other w16 old n within k other ∙ h
      | inr e ↦ absurd (other e)
    ],
  )
]

-- the mask with a register has it and those that it had
pub with_has : (mask : RegisterMask) (register : Reg) (n : ℕ) → n ≡ reg_number register → (r : Reg)
    → (bit_at (bit_or mask.bits (1 * 2 ^ n % 2 ^ 16)) (reg_number r) ≡ 1)
    ↔ (HasRegister mask r ⊎ (r ≡ register))
with_has mask register n is r =
    let low = reg_number-below register in
    let test = with_bit mask.bits n (reg_number r) (omega arith) in (
      λ h. elim (test.0 h) [ inl had ↦ inl had | inr e ↦ inr (same_number r register (e ∙ is)) ],
      λ w. test.1 (elim w [ inl had ↦ inl had | inr e ↦ inr (ap reg_number e ∙ sym is) ]),
    )

-- ---- masks together

max_one : (a b : ℕ) → a < 2 → b < 2 → (max a b ≡ 1) ↔ ((a ≡ 1) ⊎ (b ≡ 1))
max_one a b la lb = (
  λ h. elim (cases_eq a 1) [ inl e ↦ inl e | inr apart ↦ inr (omega arith) ],
  λ w. elim w [ inl x ↦ omega arith | inr x ↦ omega arith ],
)

pub or_has : (a b : ℕ) (i : ℕ) → (bit_at (bit_or a b) i ≡ 1) ↔ ((bit_at a i ≡ 1) ⊎ (bit_at b i ≡ 1))
or_has a b i =
    let both = max_one (bit_at a i) (bit_at b i) (bit_at-lt a i) (bit_at-lt b i) in
    (λ h. both.0 (sym (bit_at_or a b i) ∙ h), λ w. bit_at_or a b i ∙ both.1 w)

min_one : (a b : ℕ) → a < 2 → b < 2 → (min a ((a + b) % 2) ≡ 1) ↔ ((a ≡ 1) × (b ≡ 1 → ⊥))
min_one a b la lb = (
  λ h. (omega arith, λ both. omega arith),
  λ (had, none). elim (cases_eq b 1) [ inl e ↦ absurd (none e) | inr apart ↦ omega arith ],
)

pub without_has : (a b i : ℕ)
    → (bit_at (bit_and a (bit_xor a b)) i ≡ 1) ↔ ((bit_at a i ≡ 1) × (bit_at b i ≡ 1 → ⊥))
without_has a b i =
    let is = bit_at_and a (bit_xor a b) i ∙ ap (min (bit_at a i)) (bit_at_xor a b i) in
    let only = min_one (bit_at a i) (bit_at b i) (bit_at-lt a i) (bit_at-lt b i) in
    (λ h. only.0 (sym is ∙ h), λ w. is ∙ only.1 w)

-- ---- what two masks have in common

-- a bit that both have
common_bit : (a b : ℕ) → bit_and a b ≢ 0 → bit_and a b < 2 ^ 64
    → (j : ℕ) × (j < 64) × (bit_at a j ≡ 1) × (bit_at b j ≡ 1)
common_bit a b some fits =
    let j : ℕ = trailing_zeros w64 (bit_and a b) in
    let found = bit_at-trailing_zeros w64 (bit_and a b) (omega arith) fits in
    let least : min (bit_at a j) (bit_at b j) ≡ 1 = sym (bit_at_and a b j) ∙ found.1 in (
      j,
      found.0,
      omega (arith, least, bit_at-lt a j, bit_at-lt b j),
      omega (arith, least, bit_at-lt a j, bit_at-lt b j),
    )

-- the bits of both are a bit of what they have in common
both_bit : (a b j : ℕ) → bit_at a j ≡ 1 → bit_at b j ≡ 1 → bit_at (bit_and a b) j ≡ 1
both_bit a b j x y = omega (arith, bit_at_and a b j, x, y)

no_bit : (n j : ℕ) → bit_at n j ≡ 1 → n ≢ 0
no_bit n j has none =
    let zero : bit_at n j ≡ 0 = ap (λ (x : ℕ). bit_at x j) none ∙ bit_at-zero j in
    omega (arith, zero, has)

pub slots_meet : (a b : SlotMask) → bit_and a.bits b.bits < 2 ^ 64
    → IsTrue (not (nat_eq (bit_and a.bits b.bits) 0))
    ↔ ((j : ℕ) × (j < 64) × HasSlot a j × HasSlot b j)
slots_meet a b fits =
    let both : ℕ = bit_and a.bits b.bits in (
      λ h. common_bit a.bits b.bits (eqb-false both 0 (not-true (nat_eq both 0) h)) fits,
      λ (j, below, x, y).
          not_from_false (nat_eq both 0)
          (ne_eqb both 0 (no_bit both j (both_bit a.bits b.bits j x y))),
    )

-- a bit of the lowest eleven is a register's
pub registers_meet : (a b : RegisterMask)
    → IsTrue (not (nat_eq (bit_and (bit_and a.bits b.bits) 0x7ff) 0))
    ↔ ((r : Reg) × HasRegister a r × HasRegister b r)
registers_meet a b =
    let both : ℕ = bit_and a.bits b.bits in
    let low : ℕ = bit_and both 0x7ff in
    let fits = and_le_r both 0x7ff in (
      λ h.
          let (j, below, x, y) =
          common_bit both 0x7ff (eqb-false low 0 (not-true (nat_eq low 0) h)) (omega arith) in
          let within : j < 11 = elim (cases_lt j 11) [
            | inl lt ↦ lt
            | inr past ↦ let none = bit_at_ones_above 11 j past in absurd cc
          ] in
          let (r, named, is) = numbered j within in
          let least : min (bit_at a.bits j) (bit_at b.bits j) ≡ 1 = sym (bit_at_and a.bits b.bits j)
          ∙ x in (
            r,
            ap (bit_at a.bits) is
                ∙ omega (arith, least, bit_at-lt a.bits j, bit_at-lt b.bits j),
            ap (bit_at b.bits) is
                ∙ omega (arith, least, bit_at-lt a.bits j, bit_at-lt b.bits j),
          ),
      λ (r, x, y).
          let j : ℕ = reg_number r in
          not_from_false (nat_eq low 0)
          (ne_eqb low 0
          (no_bit low j
          (both_bit both 0x7ff j (both_bit a.bits b.bits j x y)
          (bit_at_ones 11 j (reg_number-below r))))),
    )

-- ---- no home

pub none_has : (r : Reg) → HasRegister no_registers r → ⊥
none_has r h = let no_bit = bit_at-zero (reg_number r) in absurd cc

pub no_slot : (j : ℕ) → HasSlot no_slots j → ⊥
no_slot j h = let no_bit = bit_at-zero j in absurd cc

pub no_home : (h : Home) → HasHome no_homes h → ⊥
no_home (InRegister r) h = none_has r h
no_home (InSlot j) h = no_slot j h

-- at every slot of the code, where no mask has a home
pub mask_at-none : (n slot : ℕ) → mask_at (replicate n no_homes) slot ≡ no_homes
mask_at-none n slot = elim (cases_lt slot n) [
  | inl inside ↦ get_or-replicate n slot no_homes no_homes inside
  | inr past ↦
      get_or_past (replicate n no_homes) slot no_homes (omega (arith, length-replicate n no_homes))
]

-- ---- stack slots

-- all of them
pub all_has : (j : ℕ) → (bit_at 0xffff_ffff_ffff_ffff j ≡ 1) ↔ (j < 64)
all_has j = elim (cases_lt j 64) [
  | inl below ↦ (λ h. below, λ h. bit_at_ones 64 j below)
  | inr past ↦ (λ h. let none = bit_at_ones_above 64 j past in absurd cc, λ h. absurd (omega arith))
]

-- none of eight
pub none_in : (bits from j : ℕ) → bit_and (bits / 2 ^ from) 255 ≡ 0 → from ≤ j → j < from + 8
    → bit_at bits j ≡ 1 → ⊥
none_in bits from j none low high h =
    let k : ℕ = j - from in
    let at : from + k ≡ j = omega arith in
    let there : bit_at (bits / 2 ^ from) k ≡ bit_at bits j =
    ap (λ x. x % 2) (shr-shr bits from k) ∙ ap (bit_at bits) at in
    let one : bit_at 255 k ≡ 1 = bit_at_ones 8 k (omega arith) in
    let both : bit_at (bit_and (bits / 2 ^ from) 255) k
    ≡ min (bit_at (bits / 2 ^ from) k) (bit_at 255 k) =
    bit_at_and (bits / 2 ^ from) 255 k in
    let zero : bit_at (bit_and (bits / 2 ^ from) 255) k ≡ 0 = ap (λ (x : ℕ). bit_at x k) none
    ∙ bit_at-zero k in
    omega (arith, there, one, both, zero, h)

-- one of them
pub one_has : (n j : ℕ) → n < 64 → (bit_at (1 * 2 ^ n % 2 ^ 64) j ≡ 1) ↔ (j ≡ n)
one_has n j within = elim (cases_eq j n) [
  | inl e ↦ (
    λ h. e,
    λ h. ap (λ (i : ℕ). bit_at (1 * 2 ^ n % 2 ^ 64) i) e ∙ bit_at_set_same w64 0 n within,
  )
  | inr other ↦ (
    λ h. let none : bit_at (1 * 2 ^ n % 2 ^ 64) j ≡ 0 = bit_at_set_other w64 0 n within j other
        ∙ bit_at-zero j in absurd cc,
    λ e. absurd (other e),
  )
]

pub some_has : (o : Option ℕ) (n : ℕ) → o ≡ Some n → n < 64 → (j : ℕ)
    → (bit_at (1 * 2 ^ n % 2 ^ 64) j ≡ 1) ↔ (o ≡ Some j)
some_has o n is within j =
    let one = one_has n j within in (
      λ h. is ∙ ap (λ (k : ℕ). let some : Option ℕ = Some k in some) (sym (one.0 h)),
      λ e. one.1 (sym (same_Some n j (sym is ∙ e))),
    )

-- ---- registers and stack slots

pub both_or : (a b m : HomeMask)
    → ((r : Reg) → HasRegister m.registers r
    ↔ (HasRegister a.registers r ⊎ HasRegister b.registers r))
    → ((j : ℕ) → HasSlot m.slots j ↔ (HasSlot a.slots j ⊎ HasSlot b.slots j)) → (h : Home)
    → HasHome m h ↔ (HasHome a h ⊎ HasHome b h)
both_or a b m rs js (InRegister r) = rs r
both_or a b m rs js (InSlot j) = js j

pub both_without : (a b m : HomeMask)
    → ((r : Reg) → HasRegister m.registers r
    ↔ (HasRegister a.registers r × (HasRegister b.registers r → ⊥)))
    → ((j : ℕ) → HasSlot m.slots j ↔ (HasSlot a.slots j × (HasSlot b.slots j → ⊥))) → (h : Home)
    → HasHome m h ↔ (HasHome a h × (HasHome b h → ⊥))
both_without a b m rs js (InRegister r) = rs r
both_without a b m rs js (InSlot j) = js j

-- two masks with a register in common
pub registers_in_common : (a b : HomeMask) (x : Bool) → x ≡ true
    → IsTrue x ↔ ((r : Reg) × HasRegister a.registers r × HasRegister b.registers r)
    → IsTrue x ↔ ((h : Home) × HasHome a h × HasHome b h)
registers_in_common a b x is rs =
    let (r, p, q) = rs.0 is in (λ h. (InRegister r, p, q), λ w. is)

-- with none, stack slots are left
pub slots_in_common : (a b : HomeMask) (x y : Bool) → x ≡ false → a.slots.bits < 2 ^ 64
    → IsTrue x ↔ ((r : Reg) × HasRegister a.registers r × HasRegister b.registers r)
    → IsTrue y ↔ ((j : ℕ) × (j < 64) × HasSlot a.slots j × HasSlot b.slots j)
    → IsTrue y ↔ ((h : Home) × HasHome a h × HasHome b h)
slots_in_common a b x y none fits rs js =
    (λ h. let (j, below, p, q) = js.0 h in (InSlot j, p, q), λ (h, p, q). back h p q) where
      back : (h : Home) → HasHome a h → HasHome b h → IsTrue y
      back (InRegister r) p q = absurd (iff_false rs none (r, p, q))
      back (InSlot j) p q = elim (cases_lt j 64) [
        | inl below ↦ js.1 (j, below, p, q)
        | inr past ↦ let zero = bit_at_above a.slots.bits 64 j fits past in absurd cc
      ]
