-- Hexadecimal digits from the first to the last.
use Rattle.std.proofs.Common.{ℕ, zero, suc, ◌/◌, ◌%◌, List, [], ◌∷◌, ◌++◌}
use Rattle.std.specs.Prelude.{false, if◌then◌else◌, ◌==◌}
use Rattle.std.specs.Fmt.{digit_glyph}

-- one digit
abbrev pub hex_glyph : ℕ → List ℕ
hex_glyph d = digit_glyph false d ∷ []

-- at most the last k digits of a number, without leading zeros
unfoldable pub hex_digits : ℕ → ℕ → List ℕ
hex_digits zero n = []
hex_digits (suc k) n = (if n / 16 == 0 then [] else hex_digits k (n / 16)) ++ hex_glyph (n % 16)
