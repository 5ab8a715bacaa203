-- Laws of the definitions in specs/Hexadecimal.
use Rattle.std.proofs.Common.{◌≡◌, ℕ, zero, suc, ◌-◌, ◌/◌, ◌%◌, ◌^◌, ◌<◌, ◌≤◌, List, [], ◌∷◌, ◌++◌, refl, ap, sym, ◌∙◌, arith, append_assoc, append-nil, inl, inr, false, ◌==◌}
use Rattle.std.specs.Fmt.{digits, digits_onto, digit_glyph}
use Rattle.std.proofs.lemmas.Bool.{cases_Bool, ne_eqb}
use Rattle.std.proofs.lemmas.Nat.{div_below}
use Rattle.std.proofs.Math.Nat.{pow-succ'}
use Rattle.disassembler.specs.Hexadecimal.{hex_digits, hex_glyph}

-- a number below 16 has one digit
pub hex_digits_last : (k n : ℕ) → 0 < k → n / 16 ≡ 0 → hex_digits k n ≡ hex_glyph (n % 16)
unfolding hex_digits
hex_digits_last zero n h e = absurd (omega (arith, h))
hex_digits_last (suc k) n h e = rw e refl

-- the digits before the last one, and that one
pub hex_digits_more : (k n : ℕ) → 0 < k → (n / 16 ≡ 0 → ⊥)
    → hex_digits k n ≡ hex_digits (k - 1) (n / 16) ++ hex_glyph (n % 16)
unfolding hex_digits
hex_digits_more zero n h ne = absurd (omega (arith, h))
hex_digits_more (suc k) n h ne =
    let same : suc k - 1 ≡ k = omega arith in
    rw (same, ne_eqb (n / 16) 0 ne) refl

-- the digits in front of others
digits_onto-hex : (k n : ℕ) (acc : List ℕ) → digits_onto k 16 false n acc ≡ hex_digits k n ++ acc
unfolding hex_digits
digits_onto-hex zero n acc = refl
digits_onto-hex (suc k) n acc = elim (cases_Bool (n / 16 == 0)) [
  | inl t ↦ rw t refl
  | inr f ↦
      rw f (digits_onto-hex k (n / 16) (digit_glyph false (n % 16) ∷ acc)
      ∙ sym (append_assoc (hex_digits k (n / 16)) (hex_glyph (n % 16)) acc))
]

some_digit : (k q : ℕ) → q < 16 ^ k → (q == 0) ≡ false → 0 < k
some_digit zero zero h f = absurd (cc)
some_digit zero (suc q) h f = absurd (omega (arith, h))
some_digit (suc k) q h f = omega arith

-- room for more digits than a number has changes nothing
digits_enough : (k m n : ℕ) → n < 16 ^ k → k ≤ m → 0 < k → hex_digits m n ≡ hex_digits k n
unfolding hex_digits
digits_enough zero m n h le some = absurd (omega (arith, some))
digits_enough (suc k) zero n h le some = absurd (omega (arith, le))
digits_enough (suc k) (suc m) n h le some = elim (cases_Bool (n / 16 == 0)) [
  | inl t ↦ rw t refl
  | inr f ↦
      let below : n / 16 < 16 ^ k =
      div_below n 16 (16 ^ k) (omega arith) (omega (arith, h, pow-succ' 16 k)) in
      rw f (ap (λ l. l ++ hex_glyph (n % 16))
      (digits_enough k m (n / 16) below (omega (arith, le)) (some_digit k (n / 16) below f)))
]

digits-count : (m n : ℕ) → n < 16 ^ 16 → 16 ≤ m → digits_onto m 16 false n [] ≡ hex_digits 16 n
digits-count m n small le = digits_onto-hex m n [] ∙ append-nil (hex_digits m n)
    ∙ digits_enough 16 m n small le (omega arith)

-- a number of 64 bits has at most 16 digits
pub digits_in_hex : (n : ℕ) → n < 2 ^ 64 → digits 16 false n ≡ hex_digits 16 n
unfolding digits
digits_in_hex n small = digits-count 64 n small (omega arith)
