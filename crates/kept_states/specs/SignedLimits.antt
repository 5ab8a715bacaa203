-- Signed limits that are the unsigned ones, or of which those are kept on a stack that differ.
use Rattle.std.specs.Prelude.{◌≡◌, ℕ, ℤ, List, drop, Option, Some, None}
use Rattle.std.specs.Int.{Width as IntWidth, cast_signed}
use Rattle.kept_states.specs.declared.of_two.OfTwo.{OfTwo}
use Rattle.kept_states.specs.OfTwo.{first_of, second_of, count_of}

-- the two limits, by the unsigned one, by those that a stack has, and by others
abbrev pub signed_first : IntWidth → Option OfTwo → ℕ → ℤ → List ℤ → ℤ
signed_first w None least other xs = cast_signed w least
signed_first w (Some which) least other xs = first_of which other xs

abbrev pub signed_second : IntWidth → Option OfTwo → ℕ → ℤ → List ℤ → ℤ
signed_second w None greatest other xs = cast_signed w greatest
signed_second w (Some which) greatest other xs = second_of which other xs

abbrev pub signed_left : Option OfTwo → List ℤ → List ℤ
signed_left None xs = xs
signed_left (Some which) xs = drop (count_of which) xs

-- two signed limits are on the stack, as far as they are not the unsigned ones, nor the others
pub record IsSignedPut (w : IntWidth) (d : Option OfTwo) (unsigned : ℕ × ℕ) (pair others : ℤ × ℤ)
    (old new : List ℤ) : Type 0 where
  pub first : signed_first w d unsigned.0 others.0 new ≡ pair.0
  pub second : signed_second w d unsigned.1 others.1 new ≡ pair.1
  pub left : signed_left d new ≡ old
