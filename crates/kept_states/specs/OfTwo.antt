-- Two values, of which those are kept on a stack that differ from others.
use Rattle.std.specs.Prelude.{◌≡◌, ℕ, List, [], ◌∷◌, drop}
use Rattle.kept_states.specs.declared.of_two.OfTwo.{OfTwo}
use Rattle.kept_states.specs.declared.of_two.OfTwo.TheVariants.{Neither, First, Second, Both}

abbrev pub count_of : OfTwo → ℕ
count_of Neither = 0
count_of First = 1
count_of Second = 1
count_of Both = 2

-- the top of a stack, or the other one if there is none
abbrev pub top : {A : Type 0} → A → List A → A
top other [] = other
top other (x ∷ xs) = x

-- the two, by those that a stack has, the top first, and by others
abbrev pub first_of : {A : Type 0} → OfTwo → A → List A → A
first_of Neither other xs = other
first_of First other xs = top other xs
first_of Second other xs = other
first_of Both other xs = top other (drop 1 xs)

abbrev pub second_of : {A : Type 0} → OfTwo → A → List A → A
second_of Neither other xs = other
second_of First other xs = other
second_of Second other xs = top other xs
second_of Both other xs = top other xs

-- two values are on the stack, above what was there, as far as they differ from the others
pub record IsPut {A : Type 0} (w : OfTwo) (pair others : A × A) (old new : List A) : Type 0 where
  pub first : first_of w others.0 new ≡ pair.0
  pub second : second_of w others.1 new ≡ pair.1
  pub left : drop (count_of w) new ≡ old
