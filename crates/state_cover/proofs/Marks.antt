-- The test that some marks are among others.
use Rattle.state_cover.proofs.Common.{◌≡◌, ℕ, ◌^◌, ◌<◌, inl, inr, bit_and, sym, ap, ◌∙◌, min, arith, IsTrue, ◌↔◌, nat_eq, AreAmong}
use Rattle.std.specs.Int.{bit_at}
use Rattle.std.proofs.lemmas.Bool.{cases_lt, eqb-true}
use Rattle.std.proofs.lemmas.Bool.Decides.{nat_tests}
use Rattle.std.proofs.lemmas.Nat.Bits.{bit_at_and, bit_at-lt, bit_at_above, same_from_bits}

kept_among : (m r : ℕ) → bit_and r m ≡ m → AreAmong m r
kept_among m r same = λ i within bit.
    let both : min (bit_at r i) (bit_at m i) ≡ bit_at m i = sym (bit_at_and r m i)
    ∙ ap (λ n. bit_at n i) same in
    let one : bit_at r i < 2 = bit_at-lt r i in
    omega arith

bit_among : (m r i : ℕ) → m < 2 ^ 8 → AreAmong m r → min (bit_at r i) (bit_at m i) ≡ bit_at m i
bit_among m r i below among =
    let one : bit_at m i < 2 = bit_at-lt m i in
    elim (cases_lt i 8) [
      | inl within ↦ elim (cases_lt (bit_at m i) 1) [
        | inl none ↦ omega arith
        | inr some ↦ let other : bit_at r i ≡ 1 = among i within (omega arith) in omega arith
      ]
      | inr past ↦ let none : bit_at m i ≡ 0 = bit_at_above m 8 i below past in omega arith
    ]

-- no marks
pub none-among : (m r : ℕ) → m ≡ 0 → AreAmong m r
none-among m r none = λ i within bit.
    let past : bit_at m i ≡ 0 = bit_at_above m 0 i (omega arith) (omega arith) in
    omega arith

pub among-test : (m r : ℕ) → m < 2 ^ 8 → IsTrue (nat_eq (bit_and r m) m) ↔ AreAmong m r
among-test m r below = (
  λ yes. kept_among m r (eqb-true (bit_and r m) m yes),
  λ among. let same : bit_and r m ≡ m =
      same_from_bits (bit_and r m) m (λ i. bit_at_and r m i ∙ bit_among m r i below among) in
      grind (arith, nat_tests),
)
