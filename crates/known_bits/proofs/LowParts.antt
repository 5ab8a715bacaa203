-- Operations on the low parts of numbers: what is sharp of the low parts is of the numbers, and what
-- two factors show of their product.
use Rattle.known_bits.proofs.Common.{◌≡◌, ℕ, ◌+◌, ◌*◌, ◌%◌, ◌^◌, arith, refl, ap, sym, ◌∙◌, bit_or, mod-eq_of_lt, mod-le, or_mod, pow_pos, width_bits, Mul, alu, width_most, Bits, Has, IsSharp, greatest_of, KnowsProduct}
use Rattle.std.specs.Int.Bits.{or_zero_r}
use Rattle.isa_model.specs.declared.sizes.Width.{Width}
use Rattle.known_bits.proofs.Members.{Apart}
use Rattle.known_bits.proofs.Sharp.{low_set, occurs_low}
use Rattle.known_bits.proofs.ProductZeros.{mod-mod_pow, mod-pow-mul}
use Rattle.known_bits.proofs.Precise.{occurs_lifted, second_sharp}

-- the operation on the low parts of both numbers
abbrev pub on_low : Width → (ℕ → ℕ → ℕ) → ℕ → ℕ → ℕ
on_low w f x y = f (x % 2 ^ width_bits w) (y % 2 ^ width_bits w)

-- x and y have the low parts of the members of a and b
pub record AreLow (w : Width) (a b x y : Bits) : Type 0 where
  pub first : Apart a.value a.mask
  pub second : Apart b.value b.mask
  pub first_value : x.value ≡ a.value % 2 ^ width_bits w
  pub first_mask : x.mask ≡ a.mask % 2 ^ width_bits w
  pub second_value : y.value ≡ b.value % 2 ^ width_bits w
  pub second_mask : y.mask ≡ b.mask % 2 ^ width_bits w

module _ {w : Width} {a b x y : Bits} (are : AreLow w a b x y) where
  -- what is sharp of the low parts is of the numbers
  pub lifted_sharp : (f : ℕ → ℕ → ℕ) (m : ℕ) → IsSharp x y f m → IsSharp a b (on_low w f) m
  lifted_sharp f m sharp i h =
      let n = width_bits w in
      let o = rw (are.first_value, are.first_mask, are.second_value, are.second_mask) at (sharp i h)
      in (
        occurs_lifted are.first are.second f n i 0 (width_most w) o.0,
        occurs_lifted are.first are.second f n i 1 (width_most w) o.1,
      )

  -- the second number's low part
  pub moved_sharp : IsSharp a b (on_low w (λ u v. v)) y.mask
  moved_sharp i h =
      let n = width_bits w in
      let s = low_set b.mask n i (rw are.second_mask at h) in
      let o = second_sharp are.first are.second i s.1 in (
        occurs_low (λ u v. v) (on_low w (λ u v. v)) n i 0 s.0 (λ u v hu hv. refl) o.0,
        occurs_low (λ u v. v) (on_low w (λ u v. v)) n i 1 s.0 (λ u v hu hv. refl) o.1,
      )

  -- a known number has a known low part
  pub low_constant : b.mask ≡ 0 → y.mask ≡ 0
  low_constant zero =
      are.second_mask ∙ ap (λ t. t % 2 ^ width_bits w) zero
      ∙ mod-eq_of_lt {n = 0} {m = 2 ^ width_bits w} (pow_pos (width_bits w))

  -- what the low parts show of their product
  pub lifted_product : {has : ℕ → Type 0} → KnowsProduct (greatest_of x) (greatest_of y) has
      → KnowsProduct (greatest_of a % 2 ^ width_bits w) (greatest_of b % 2 ^ width_bits w) has
  lifted_product known =
      let n = width_bits w in
      let first : greatest_of x ≡ greatest_of a % 2 ^ n =
      rw (are.first_value, are.first_mask) (sym (or_mod a.value a.mask n)) in
      let second : greatest_of y ≡ greatest_of b % 2 ^ n =
      rw (are.second_value, are.second_mask) (sym (or_mod b.value b.mask n)) in
      rw (sym first, sym second) known

-- an operation on single bits is as sharp on the low parts as on the numbers
pub bitwise_sharp : (a b : Bits) (w : Width) (f : ℕ → ℕ → ℕ)
    → ((x y n : ℕ) → f x y % 2 ^ n ≡ f (x % 2 ^ n) (y % 2 ^ n)) → (m k : ℕ) → IsSharp a b f m
    → k ≡ m % 2 ^ width_bits w → IsSharp a b (on_low w f) k
bitwise_sharp a b w f low m k sharp is i h =
    let n = width_bits w in
    let s = low_set m n i (rw is at h) in
    let o = sharp i s.1 in (
      occurs_low f (on_low w f) n i 0 s.0 (λ x y hx hy. low x y n) o.0,
      occurs_low f (on_low w f) n i 1 s.0 (λ x y hx hy. low x y n) o.1,
    )

-- two constants have one product
pub constant_product : (a b p : Bits) (w : Width) → a.mask ≡ 0 → b.mask ≡ 0
    → ((z : ℕ) → Has p z → z ≡ alu Mul w a.value b.value)
    → KnowsProduct (greatest_of a % 2 ^ width_bits w) (greatest_of b % 2 ^ width_bits w) (Has p)
unfolding alu
constant_product a b p w first second only =
    let n = width_bits w in
    let x = a.value % 2 ^ n in
    let y = b.value % 2 ^ n in
    let greatest_a : greatest_of a ≡ a.value = ap (bit_or a.value) first ∙ or_zero_r a.value in
    let greatest_b : greatest_of b ≡ b.value = ap (bit_or b.value) second ∙ or_zero_r b.value in
    rw (greatest_a, greatest_b) (record {
      zeros = λ j k z fits hj hk h.
          ap (λ t. t % 2 ^ (j + k)) (only z h)
          ∙ mod-mod_pow (x * y) (j + k) n (mod-pow-mul x y j k hj hk);
      limit = λ l z small h. let is = only z h in let le = mod-le (x * y) (2 ^ n) in omega arith;
    })
