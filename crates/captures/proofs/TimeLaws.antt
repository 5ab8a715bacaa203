-- Laws of times: units of a power of 10 or 2, in nanoseconds.
use Rattle.std.proofs.Common.{◌≡◌, ℕ, ◌+◌, ◌-◌, ◌*◌, ◌/◌, ◌%◌, ◌^◌, ◌<◌, ◌≤◌, sym, ap, ◌∙◌, arith}
use Rattle.std.proofs.Math.Nat.{mul_assoc, mul-div_cancel, mul-div-mul_right, div-eq_of_lt, div-le_self, mod-eq_of_lt, one-le-pow}
use Rattle.std.proofs.lemmas.Nat.{pow-add}

pub scaled_up : (units n : ℕ) → n ≤ 9 → units * 10 ^ 9 / 10 ^ n ≡ units * 10 ^ (9 - n)
scaled_up units n h =
    let whole : 9 ≡ (9 - n) + n = omega arith in
    let split : 10 ^ 9 ≡ 10 ^ (9 - n) * 10 ^ n =
    ap (λ k. 10 ^ k) whole ∙ pow-add 10 (9 - n) n in
    let some = one-le-pow n 10 (omega arith) in
    ap (λ p. units * p / 10 ^ n) split
    ∙ ap (λ x. x / 10 ^ n) (sym (mul_assoc units (10 ^ (9 - n)) (10 ^ n)))
    ∙ mul-div_cancel (units * 10 ^ (9 - n)) some

pub scaled_down : (units n : ℕ) → 9 < n → units * 10 ^ 9 / 10 ^ n ≡ units / 10 ^ (n - 9)
scaled_down units n h =
    let whole : n ≡ (n - 9) + 9 = omega arith in
    let split : 10 ^ n ≡ 10 ^ (n - 9) * 10 ^ 9 =
    ap (λ k. 10 ^ k) whole ∙ pow-add 10 (n - 9) 9 in
    let some : 0 < 10 ^ 9 = omega arith in
    ap (λ p. units * 10 ^ 9 / p) split ∙ mul-div-mul_right units (10 ^ (n - 9)) some

-- fewer units than a nanosecond has are none
pub too_fine_10 : (units n : ℕ) → units < 2 ^ 64 → 28 < n → units * 10 ^ 9 / 10 ^ n ≡ 0
too_fine_10 units n few h =
    let whole : n ≡ (n - 29) + 29 = omega arith in
    let split : 10 ^ n ≡ 10 ^ (n - 29) * 10 ^ 29 =
    ap (λ k. 10 ^ k) whole ∙ pow-add 10 (n - 29) 29 in
    let some = one-le-pow (n - 29) 10 (omega arith) in
    let less : units * 10 ^ 9 < 10 ^ n = omega arith in
    div-eq_of_lt less

pub too_fine_2 : (units n : ℕ) → units < 2 ^ 64 → 127 < n → units * 10 ^ 9 / 2 ^ n ≡ 0
too_fine_2 units n few h =
    let whole : n ≡ (n - 128) + 128 = omega arith in
    let split : 2 ^ n ≡ 2 ^ (n - 128) * 2 ^ 128 =
    ap (λ k. 2 ^ k) whole ∙ pow-add 2 (n - 128) 128 in
    let some = one-le-pow (n - 128) 2 (omega arith) in
    let less : units * 10 ^ 9 < 2 ^ n = omega arith in
    div-eq_of_lt less

-- a part of a number of 64 bits is one
pub part_fits : (units n : ℕ) → units < 2 ^ 64 → units / n % 2 ^ 64 ≡ units / n
part_fits units n h =
    let less = div-le_self units n in
    let fits : units / n < 2 ^ 64 = omega arith in
    mod-eq_of_lt fits

pub ten_some : (n : ℕ) → 0 < 10 ^ n
ten_some n = one-le-pow n 10 (omega arith)
