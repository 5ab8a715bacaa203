-- Laws of the greatest number below another that passes a test, and of how many do.
use Rattle.map_indexes.proofs.Common.{◌≡◌, ℕ, zero, suc, ◌+◌, ◌<◌, ◌≤◌, Bool, true, false, cond, Some, None, refl, sym, ap, ◌∙◌, arith, inl, inr, cases_lt, last_below, count_below}

-- it is below m and passes, and no number between it and m does
pub last_is : (test : ℕ → Bool) (m k : ℕ) → last_below test m ≡ Some k
    → (k < m) × (test k ≡ true) × ((j : ℕ) → k < j → j < m → test j ≡ false)
last_is test zero k e = absurd (cc)
last_is test (suc m) k e =
    elim (test m) as (λ b. test m ≡ b → cond b (Some m) (last_below test m) ≡ Some k
    → (k < suc m) × (test k ≡ true) × ((j : ℕ) → k < j → j < suc m → test j ≡ false)) [
      | true ↦
          λ t f. let s : m ≡ k =
          cc in (omega arith, ap test (sym s) ∙ t, λ j a b. absurd (omega arith))
      | false ↦ λ t f.
          let r = last_is test m k f in
          let below = r.0 in (
            omega arith,
            r.1,
            λ j a b. elim (cases_lt j m) [
              | inl l ↦ r.2 j a l
              | inr g ↦ let s : j ≡ m = omega arith in ap test s ∙ t
            ],
          )
    ] refl e

-- where there is none, no number below m passes
pub none_below : (test : ℕ → Bool) (m : ℕ) → last_below test m ≡ None → (j : ℕ) → j < m
    → test j ≡ false
none_below test zero e j h = absurd (omega arith)
none_below test (suc m) e j h =
    elim (test m) as (λ b. test m ≡ b → cond b (Some m) (last_below test m) ≡ None
    → test j ≡ false) [
      | true ↦ λ t f. absurd (cc)
      | false ↦ λ t f. elim (cases_lt j m) [
        | inl l ↦ none_below test m f j l
        | inr g ↦ let s : j ≡ m = omega arith in ap test s ∙ t
      ]
    ] refl e

-- tests that agree below m
pub last_same : (test test' : ℕ → Bool) (m : ℕ) → ((j : ℕ) → j < m → test' j ≡ test j)
    → last_below test' m ≡ last_below test m
last_same test test' zero f = refl
last_same test test' (suc m) f =
    λ i. cond (f m (omega arith) i) (Some m) (last_same test test' m (λ j h. f j (omega arith)) i)

-- no number from a on passes
pub last_skip : (test : ℕ → Bool) (a m : ℕ) → a ≤ m → ((j : ℕ) → a ≤ j → j < m → test j ≡ false)
    → last_below test m ≡ last_below test a
last_skip test a zero h f = let e : 0 ≡ a = omega arith in ap (last_below test) e
last_skip test a (suc m) h f = elim (cases_lt m a) [
  | inl l ↦ let e : suc m ≡ a = omega arith in ap (last_below test) e
  | inr g ↦
      ap (λ (b : Bool). cond b (Some m) (last_below test m)) (f m g (omega arith))
      ∙ last_skip test a m g (λ j p q. f j p (omega arith))
]

-- a passes, and none above it
pub last_here : (test : ℕ → Bool) (a m : ℕ) → a < m → test a ≡ true
    → ((j : ℕ) → a < j → j < m → test j ≡ false) → last_below test m ≡ Some a
last_here test a m h t f =
    last_skip test (suc a) m (omega arith) (λ j p q. f j (omega arith) q)
    ∙ ap (λ (b : Bool). cond b (Some a) (last_below test a)) t

-- tests that agree from k on, where k passes
pub last_above : (test test' : ℕ → Bool) (k m : ℕ) → k < m → test k ≡ true
    → ((j : ℕ) → k ≤ j → j < m → test' j ≡ test j)
    → last_below test' m ≡ last_below test m
last_above test test' k zero h t f = absurd (omega arith)
last_above test test' k (suc m) h t f = elim (cases_lt k m) [
  | inl l ↦
      λ i. cond (f m (omega arith) (omega arith) i) (Some m)
      (last_above test test' k m l t (λ j p q. f j p (omega arith)) i)
  | inr g ↦
      let e : m ≡ k = omega arith in
      let here : test m ≡ true = ap test e ∙ t in
      ap (λ (b : Bool). cond b (Some m) (last_below test' m))
      (f m (omega arith) (omega arith) ∙ here)
      ∙ sym (ap (λ (b : Bool). cond b (Some m) (last_below test m)) here)
]

-- ---- how many pass the test

pub count_below-none : (test : ℕ → Bool) (m : ℕ) → last_below test m ≡ None
    → count_below test m ≡ 0
count_below-none test zero e = refl
count_below-none test (suc m) e =
    elim (test m) as (λ b. cond b (Some m) (last_below test m) ≡ None
    → cond b (count_below test m + 1) (count_below test m) ≡ 0) [
      | true ↦ λ f. absurd (cc)
      | false ↦ λ f. count_below-none test m f
    ] e

-- one more than below the greatest of them
pub count_below-some : (test : ℕ → Bool) (m k : ℕ) → last_below test m ≡ Some k
    → count_below test m ≡ count_below test k + 1
count_below-some test zero k e = absurd (cc)
count_below-some test (suc m) k e =
    elim (test m) as (λ b. cond b (Some m) (last_below test m) ≡ Some k
    → cond b (count_below test m + 1) (count_below test m) ≡ count_below test k + 1) [
      | true ↦ λ f. let same : m ≡ k = cc in ap (λ (n : ℕ). count_below test n + 1) same
      | false ↦ λ f. count_below-some test m k f
    ] e
