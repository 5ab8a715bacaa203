-- What is between two numbers of a signed type is a number of the type.
use Rattle.ranges.proofs.Common.{ℤ, pos, negsuc, ◌≤◌, arith, ◌≤ℤ◌, FitsSigned, ints}
use Rattle.std.specs.Int.{Width as IntWidth}

-- a number between two numbers of the type is one of the type
pub fits_within : (w : IntWidth) (l g z : ℤ) → FitsSigned w l → FitsSigned w g → l ≤ℤ z → z ≤ℤ g
    → FitsSigned w z
fits_within w l (pos m) (pos n) fl fg from to =
    record { sfits = let s = fg.sfits in let le : n ≤ m = omega (arith, ints) in omega arith }
fits_within w l (negsuc m) (pos n) fl fg from to = absurd (omega (arith, ints))
fits_within w (negsuc m) g (negsuc n) fl fg from to =
    record { sfits = let s = fl.sfits in let le : n ≤ m = omega (arith, ints) in omega arith }
fits_within w (pos m) g (negsuc n) fl fg from to = absurd (omega (arith, ints))

-- so narrower limits are numbers of the type
pub narrower_fits : (w : IntWidth) (l g a b : ℤ) → FitsSigned w l × FitsSigned w g → l ≤ℤ a → a ≤ℤ b
    → b ≤ℤ g → FitsSigned w a × FitsSigned w b
narrower_fits w l g a b fits from ordered to = (
  fits_within w l g a fits.0 fits.1 from (omega (arith, ints)),
  fits_within w l g b fits.0 fits.1 (omega (arith, ints)) to,
)
