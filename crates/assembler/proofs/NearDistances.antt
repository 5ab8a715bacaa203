-- Laws of distances that have 16 bits.
use Rattle.std.proofs.Common.{◌≡◌, ◌^◌, true, false, ℤ, pos, negsuc, FitsSigned, ltb-true, lt-ltb, inl, inr}
use Rattle.assembler.proofs.Common.{cases_Bool, w16, is_near}

pub fits_near : (by : ℤ) → FitsSigned w16 by → is_near by ≡ true
fits_near (pos n) f = lt-ltb n (2 ^ 15) f.sfits
fits_near (negsuc n) f = lt-ltb n (2 ^ 15) f.sfits

near_fits : (by : ℤ) → is_near by ≡ true → FitsSigned w16 by
near_fits (pos n) e = record { sfits = ltb-true n (2 ^ 15) e }
near_fits (negsuc n) e = record { sfits = ltb-true n (2 ^ 15) e }

pub fits_not : (by : ℤ) → (FitsSigned w16 by → ⊥) → is_near by ≡ false
fits_not by far = elim (cases_Bool (is_near by)) [
  | inl t ↦ absurd (far (near_fits by t))
  | inr f ↦ f
]

-- whether a distance is near
pub ruleset nearness = (fits_near, fits_not)
