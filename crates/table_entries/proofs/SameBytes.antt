-- Bytes that are the same, compared by numbers of eight bytes.
use Rattle.table_entries.proofs.Common.{◌≡◌, ℕ, zero, suc, ◌+◌, ◌-◌, ◌*◌, ◌<◌, ◌≤◌, List, ◌++◌, length, take, drop, get_or, inl, inr, sym, ap, ◌∙◌, subst, arith, cases_eq, cases_lt, ext_get_or, length-take-le, get_or-take, get_or-drop, take-append-drop, little_from, little_number}

-- each is a byte
abbrev pub AreBytes : List ℕ → Type 0
AreBytes xs = (k : ℕ) → get_or xs k 0 < 256

low_first : (a b c d : ℕ) → a < 256 → c < 256 → a + 256 * b ≡ c + 256 * d → (a ≡ c) × (b ≡ d)
low_first a b c d x y same = (omega arith, omega arith)

little_from-same : (n i : ℕ) (xs ys : List ℕ) → AreBytes xs → AreBytes ys
    → little_from i n xs ≡ little_from i n ys → (k : ℕ) → i ≤ k → k < i + n
    → get_or xs k 0 ≡ get_or ys k 0
little_from-same zero i xs ys x y same k from to = absurd (omega arith)
little_from-same (suc n) i xs ys x y same k from to =
    let both =
    low_first (get_or xs i 0) (little_from (suc i) n xs) (get_or ys i 0)
    (little_from (suc i) n ys) (x i) (y i) same in
    elim (cases_eq k i) [
      | inl here ↦ ap (λ (j : ℕ). get_or xs j 0) here ∙ both.0
          ∙ ap (λ (j : ℕ). get_or ys j 0) (sym here)
      | inr other ↦ little_from-same n (suc i) xs ys x y both.1 k (omega arith) (omega arith)
    ]

AreBytes-drop : (d : ℕ) (xs : List ℕ) → AreBytes xs → AreBytes (drop d xs)
AreBytes-drop d xs each k =
    subst (λ (b : ℕ). b < 256) (sym (get_or-drop d xs k 0)) (each (d + k))

-- the first d bytes are the same, and the eight after them
pub eight_same : (d : ℕ) (xs ys : List ℕ) → AreBytes xs → AreBytes ys
    → ((k : ℕ) → k < d → get_or xs k 0 ≡ get_or ys k 0)
    → little_number 8 (drop d xs) ≡ little_number 8 (drop d ys)
    → (k : ℕ) → k < d + 8 → get_or xs k 0 ≡ get_or ys k 0
eight_same d xs ys x y before same k less = elim (cases_lt k d) [
  | inl inside ↦ before k inside
  | inr past ↦
      let index : d + (k - d) ≡ k = omega arith in
      let there =
      little_from-same 8 0 (drop d xs) (drop d ys) (AreBytes-drop d xs x) (AreBytes-drop d ys y)
      same (k - d) (omega arith) (omega arith) in
      ap (λ (j : ℕ). get_or xs j 0) (sym index) ∙ sym (get_or-drop d xs (k - d) 0) ∙ there
      ∙ get_or-drop d ys (k - d) 0 ∙ ap (λ (j : ℕ). get_or ys j 0) index
]

pub begins-same : (xs front : List ℕ) → length front ≤ length xs
    → ((k : ℕ) → k < length front → get_or xs k 0 ≡ get_or front k 0)
    → xs ≡ front ++ drop (length front) xs
begins-same xs front long each =
    let size = length-take-le (length front) xs long in
    let same : take (length front) xs ≡ front =
    ext_get_or 0 (take (length front) xs) front size
    (λ i less. get_or-take (length front) xs i 0 (omega arith) ∙ each i (omega arith)) in
    sym (take-append-drop (length front) xs) ∙ ap (λ l. l ++ drop (length front) xs) same
