-- Laws of the test of the hints whether bytes occur in others, byte by byte.
use Rattle.assembler.proofs.Common.{◌≡◌, ℕ, zero, suc, ◌+◌, ◌-◌, false, Bool, List, [], ◌∷◌, length, take, drop, refl, sym, subst, arith, ◌||◌, begins, has}
use Rattle.image.proofs.CodeSpelling.{take-rest}

or_false : (x y : Bool) → x ≡ false → (x || y) ≡ y
or_false x y e = rw e refl

behind : (n : ℕ) (bs part : List ℕ) → begins (drop n bs) part ≡ false
    → has (drop n bs) part ≡ has (drop (suc n) bs) part
behind zero [] part e = refl
behind zero (b ∷ bs) part e = or_false (begins (b ∷ bs) part) (has bs part) e
behind (suc n) [] part e = refl
behind (suc n) (b ∷ bs) part e = behind n bs part e

-- bytes that do not begin with a part can have it only after their first byte
pub has_behind : (bs part : List ℕ) (n : ℕ) → begins (take (length bs - n) (drop n bs)) part ≡ false
    → has (drop n bs) part ≡ has (drop (n + 1) bs) part
has_behind bs part n e =
    let one : suc n ≡ n + 1 = omega arith in
    rw (sym one) (behind n bs part
    (subst (λ (ys : List ℕ). begins ys part ≡ false) (take-rest n bs) e))
