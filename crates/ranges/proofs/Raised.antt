-- Low halves moved up, and shifted with their sign.
use Rattle.ranges.proofs.Common.{◌≡◌, ℕ, ℤ, pos, ◌+◌, ◌-◌, ◌*◌, ◌%◌, ◌^◌, ◌<◌, ◌≤◌, sym, ap, ◌∙◌, arith, w64, ◌*ℤ◌, ◌≤ℤ◌, FitsSigned, w32, cast_signed, cast_unsigned, int_shr, mag_shr, sfits_to_z, mul_assoc, ints, pow-add, mul-mod_first, Full64, Lsh, alu, shift, signed_equation, low_same}
use Rattle.ranges.proofs.LowLaws.{low_signed_equation}

-- a shift to the left by 32 or more depends on the low half only
pub raised_low : (x k : ℕ) → 32 ≤ k → (x * 2 ^ k) % 2 ^ 64 ≡ (x % 2 ^ 32 * 2 ^ k) % 2 ^ 64
raised_low x k h =
    let e : k ≡ (k - 32) + 32 = omega arith in
    let p : 2 ^ k ≡ 2 ^ (k - 32) * 2 ^ 32 = ap (λ m. 2 ^ m) e ∙ pow-add 2 (k - 32) 32 in
    let s : (n : ℕ) → n * 2 ^ k ≡ n * 2 ^ (k - 32) * 2 ^ 32 = λ n. ap (λ m. n * m) p
    ∙ sym (mul_assoc n (2 ^ (k - 32)) (2 ^ 32)) in
    let q : (n : ℕ) → (n * 2 ^ k) % 2 ^ 64 ≡ (n * 2 ^ (k - 32)) % 2 ^ 32 * 2 ^ 32 =
    λ n. rw (s n) (omega arith) in
    q x ∙ ap (λ m. m * 2 ^ 32) (sym (mul-mod_first x (2 ^ (k - 32)) (2 ^ 32)))
    ∙ sym (q (x % 2 ^ 32))

-- so the instruction's result is that of the low half
pub shifted_raised : (x y k : ℕ) → x < 2 ^ 64 → y < 2 ^ 64 → k ≡ shift Full64 y → 32 ≤ k
    → alu Lsh Full64 x y ≡ (x % 2 ^ 32 * 2 ^ k) % 2 ^ 64
unfolding alu
shifted_raised x y k hx hy is far =
    rw (low_same Full64 x hx, low_same Full64 y hy, sym is) (raised_low x k far)

-- moved into the upper half, it is 2^32 times itself, read with a sign too
pub raised_signed : (e : ℕ) → e < 2 ^ 32
    → cast_signed w64 ((e * 2 ^ 32) % 2 ^ 64) ≡ cast_signed w32 e *ℤ pos (2 ^ 32)
raised_signed e h =
    let p = low_signed_equation e h in
    let q = signed_equation ((e * 2 ^ 32) % 2 ^ 64) (omega arith) in
    omega (arith, ints)

pub times_mono : (a b : ℤ) → a ≤ℤ b → (a *ℤ pos (2 ^ 32)) ≤ℤ (b *ℤ pos (2 ^ 32))
times_mono a b h = omega (arith, ints)

-- a half extended by its sign and shifted has the shifted half as its low half
pub shifted_low : (e k : ℕ) → e < 2 ^ 32
    → cast_unsigned w64
    (int_shr (cast_signed w64 (cast_unsigned w64 (cast_signed w32 e))) k) % 2 ^ 32
    ≡ cast_unsigned w32 (int_shr (cast_signed w32 e) k)
shifted_low e k h =
    let same : cast_signed w64 (cast_unsigned w64 (cast_signed w32 e)) ≡ cast_signed w32 e =
    omega (arith, ints) in
    let f : FitsSigned w32 (cast_signed w32 e) = sfits_to_z (record { fits = h }) in
    rw same (low_of (int_shr (cast_signed w32 e) k)
    (record {
      sfits = let l = mag_shr (cast_signed w32 e) (2 ^ k) in
          let s = f.sfits in omega arith;
    }))
  where
    low_of : (z : ℤ) → FitsSigned w32 z → cast_unsigned w64 z % 2 ^ 32 ≡ cast_unsigned w32 z
    low_of z f = omega (arith, ints, f.sfits)

-- a shifted half is a half
pub half_fits : (z : ℤ) (k : ℕ) → FitsSigned w32 z → FitsSigned w32 (int_shr z k)
half_fits z k f = record { sfits = let l = mag_shr z (2 ^ k) in let s = f.sfits in omega arith }
