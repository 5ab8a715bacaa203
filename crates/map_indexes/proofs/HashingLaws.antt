-- Laws of the hash of a key, four bytes at a time.
use Rattle.map_indexes.proofs.Common.{◌≡◌, ℕ, suc, ◌+◌, ◌-◌, ◌/◌, ◌<◌, ◌≤◌, List, length, drop, ap, arith, little_number, mixed, words_mixed}

-- four bytes are mixed
pub words_mixed-four : (bs : List ℕ) (h : ℕ) → 4 ≤ length bs
    → words_mixed ((length bs + 3) / 4) bs h
    ≡ words_mixed (((length bs - 4) + 3) / 4) (drop 4 bs) (mixed h (little_number 4 bs))
words_mixed-four bs h more =
    let n : (length bs + 3) / 4 ≡ suc (((length bs - 4) + 3) / 4) = omega arith in
    ap (λ (k : ℕ). words_mixed k bs h) n

-- the last bytes are
pub words_mixed-last : (bs : List ℕ) (h : ℕ) → 0 < length bs → length bs < 4
    → words_mixed ((length bs + 3) / 4) bs h ≡ mixed h (little_number 4 bs)
words_mixed-last bs h some few =
    let n : (length bs + 3) / 4 ≡ 1 = omega arith in
    ap (λ (k : ℕ). words_mixed k bs h) n

pub words_mixed-none : (bs : List ℕ) (h : ℕ) → length bs ≡ 0
    → words_mixed ((length bs + 3) / 4) bs h ≡ h
words_mixed-none bs h none =
    let n : (length bs + 3) / 4 ≡ 0 = omega arith in
    ap (λ (k : ℕ). words_mixed k bs h) n
