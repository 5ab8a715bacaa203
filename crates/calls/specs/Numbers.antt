-- The codes of refusals as numbers.
use Rattle.std.specs.Prelude.{ℕ, ◌+◌, ◌-◌, ◌*◌, ◌==◌, if◌then◌else◌, List, [], ◌∷◌}

-- the number that decimal digits spell, after one that more digits follow
abbrev pub digits_number : ℕ → List ℕ → ℕ
digits_number n [] = n
digits_number n (digit ∷ digits) = digits_number (10 * n + (digit - 48)) digits

-- what is added for the letter of a code: 100 for G, 200 for I, and 0 for every other
abbrev pub letter_number : ℕ → ℕ
letter_number letter = if letter == 71 then 100 else if letter == 73 then 200 else 0

-- the number of a code, such as 9 for V9, 103 for G3 and 205 for I5
abbrev pub code_number : List ℕ → ℕ
code_number [] = 0
code_number (letter ∷ digits) = letter_number letter + digits_number 0 digits
