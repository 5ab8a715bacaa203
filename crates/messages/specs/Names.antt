-- How messages show the name of a file: control characters, which a terminal would obey, escaped.
use Rattle.std.specs.Prelude.{ℕ, ◌+◌, ◌/◌, ◌%◌, ◌==◌, nat_le, nat_lt, Bool, ◌&&◌, ◌||◌, not, List, [], ◌∷◌, ◌++◌, slice_index, bytes_eq, codes, if◌then◌else◌}
use Rattle.std.specs.List.{list_all}

-- a control character of ASCII
abbrev pub is_control : ℕ → Bool
is_control b = nat_lt b 32 || (b == 127)

-- the second byte of another control character, whose first byte is 194
abbrev pub is_upper_control : ℕ → Bool
is_upper_control b = nat_le 128 b && nat_lt b 160

abbrev pub hex_digit : ℕ → ℕ
hex_digit n = if nat_lt n 10 then 48 + n else 87 + n

-- the escape of a byte, such as \x1b
abbrev pub escaped : ℕ → List ℕ
escaped b = 92 ∷ 120 ∷ hex_digit (b / 16) ∷ hex_digit (b % 16) ∷ []

-- a byte as it is shown, between these two
abbrev pub shown_byte : ℕ → ℕ → ℕ → List ℕ
shown_byte before b after =
    if (b == 194) && is_upper_control after then []
    else if is_control b || ((before == 194) && is_upper_control b) then escaped b
    else b ∷ []

-- these bytes as they are shown, with one before them
abbrev pub shown_from : ℕ → List ℕ → List ℕ
shown_from before [] = []
shown_from before (b ∷ bs) = shown_byte before b (slice_index bs 0) ++ shown_from b bs

-- a byte that is shown as it is, whatever stands beside it
abbrev pub is_plain : ℕ → Bool
is_plain b = not (is_control b) && not (b == 194)

abbrev pub shown_name : List ℕ → List ℕ
shown_name name = if list_all is_plain name then name else shown_from 0 name

-- the hint for a name that other programs take for standard input
abbrev pub dash_line : List ℕ → List ℕ
dash_line name =
    if bytes_eq name (codes "-")
    then codes "standard input is /dev/stdin\n" else []
