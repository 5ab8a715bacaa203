-- What a line of a text of maps says, by the map rows of an image. docs/FORMATS.md.
use Rattle.std.specs.Prelude.{ℕ, ◌+◌, ◌-◌, ◌*◌, ◌==◌, nat_lt, nat_le, nat_eq, max, ◌&&◌, ◌||◌, not, Bool, true, if◌then◌else◌, List, [], ◌∷◌, length, take, drop, codes, decimal, Option, Some, None}
use Rattle.std.specs.List.{prefix_len, starts_with, slice_get}
use Rattle.std.specs.Result.{result_ok}
use Rattle.hex.specs.Hex.{decode_of, is_hex_digit}
use Rattle.isa_model.specs.declared.map_defs.MapDef.{MapDef}
use Rattle.isa_model.specs.Code.Limits.{max_key_size, max_value_size}
use Rattle.map_texts.specs.declared.errors.MapTextErrorKind.{MapTextErrorKind}
use Rattle.map_texts.specs.declared.errors.MapTextErrorKind.TheVariants.{NoForm, NoMap, KeySize, ValueSize, LongLine}

-- ---- lines that are passed over

abbrev pub is_digit : ℕ → Bool
is_digit b = nat_le 48 b && nat_le b 57

-- empty lines, comments, and the other lines of a report
abbrev pub is_passed : List ℕ → Bool
is_passed [] = true
is_passed (b ∷ rest) =
    (b == 35) || (is_digit b
    || (starts_with nat_eq (b ∷ rest) (codes "end")
    || starts_with nat_eq (b ∷ rest) (codes "fault")))

-- ---- the length of a line

-- how many bytes the line of a key and its value has
abbrev pub line_size : ℕ → MapDef → ℕ
line_size index row =
    4 + length (decimal index) + (1 + 2 * row.key_size) + (1 + 2 * row.value_size)

-- the most that the rows need, the first of them with this index
abbrev pub longest_from : ℕ → List MapDef → ℕ
longest_from index [] = 0
longest_from index (row ∷ rows) = max (line_size index row) (longest_from (index + 1) rows)

-- no map of any image needs more, with an index of up to 20 digits
abbrev pub most_line_size : ℕ
most_line_size = 4 + 20 + (1 + 2 * max_key_size) + (1 + 2 * max_value_size)

-- the longest line that is read; without rows, each index is refused as one that no map has
abbrev pub longest_line : List MapDef → ℕ
longest_line [] = most_line_size
longest_line (row ∷ rows) = longest_from 0 (row ∷ rows)

-- ---- fields, with one space between them

abbrev pub is_field_byte : ℕ → Bool
is_field_byte b = not (b == 32)

abbrev pub field : List ℕ → List ℕ
field text = take (prefix_len is_field_byte text) text

abbrev pub after_field : List ℕ → List ℕ
after_field text = drop (prefix_len is_field_byte text + 1) text

-- those of a line that begins with `map` and a space; the value is all that follows the key
abbrev pub index_field : List ℕ → List ℕ
index_field line = field (drop 4 line)

abbrev pub key_field : List ℕ → List ℕ
key_field line = field (after_field (drop 4 line))

abbrev pub value_field : List ℕ → List ℕ
value_field line = after_field (after_field (drop 4 line))

-- the columns at which they begin
abbrev pub index_column : ℕ
index_column = 5

abbrev pub key_column : List ℕ → ℕ
key_column line = index_column + length (index_field line) + 1

abbrev pub value_column : List ℕ → ℕ
value_column line = key_column line + length (key_field line) + 1

-- a number with more digits
abbrev pub number_from : ℕ → List ℕ → ℕ
number_from n [] = n
number_from n (b ∷ digits) = number_from (10 * n + (b - 48)) digits

-- the number that decimal digits spell
abbrev pub field_number : List ℕ → Option ℕ
field_number text =
    if length text == 0 then None
    else if prefix_len is_digit text == length text then Some (number_from 0 text)
    else None

-- the bytes that pairs of hexadecimal digits spell
abbrev pub field_bytes : List ℕ → Option (List ℕ)
field_bytes text = if length text == 0 then None else result_ok (decode_of text)

-- ---- lines

pub data Meaning : Type 0 where
  -- the line is passed over
  Passed : Meaning
  -- the map with this index and row is updated: the key has the value; the key's column
  Update : ℕ → MapDef → List ℕ → List ℕ → ℕ → Meaning
  -- the line is refused, at the column
  Refused : MapTextErrorKind → ℕ → Meaning

-- a key and a value, which begin at these columns, for a map with this index and row
abbrev pub sized_meaning : (key_at value_at index : ℕ) → MapDef → (key value : List ℕ) → Meaning
sized_meaning key_at value_at index row key value =
    if not (length key == row.key_size) then Refused KeySize key_at
    else if not (length value == row.value_size) then Refused ValueSize value_at
    else Update index row key value key_at

abbrev pub row_meaning : (key_at value_at index : ℕ) → Option MapDef → (key value : List ℕ)
    → Meaning
row_meaning key_at value_at index None key value = Refused NoMap index_column
row_meaning key_at value_at index (Some row) key value =
    sized_meaning key_at value_at index row key value

-- the first field that does not have its form is refused, at its first wrong byte
abbrev pub fields_meaning : List MapDef → List ℕ → Option ℕ → (key value : Option (List ℕ))
    → Meaning
fields_meaning rows line None key value =
    Refused NoForm (index_column + prefix_len is_digit (index_field line))
fields_meaning rows line (Some index) None value =
    Refused NoForm (key_column line + prefix_len is_hex_digit (key_field line))
fields_meaning rows line (Some index) (Some key) None =
    Refused NoForm (value_column line + prefix_len is_hex_digit (value_field line))
fields_meaning rows line (Some index) (Some key) (Some value) =
    row_meaning (key_column line) (value_column line) index (slice_get rows index) key value

-- the line of a key and its value
abbrev pub map_line_meaning : List MapDef → List ℕ → Meaning
map_line_meaning rows line =
    if starts_with nat_eq line (codes "map ")
    then fields_meaning rows line (field_number (index_field line)) (field_bytes (key_field line))
    (field_bytes (value_field line))
    else Refused NoForm 1

abbrev pub is_too_long : List MapDef → List ℕ → Bool
is_too_long rows line = not (is_passed line) && nat_lt (longest_line rows) (length line)

unfoldable pub line_meaning : List MapDef → List ℕ → Meaning
line_meaning rows line =
    if is_passed line then Passed
    else if nat_lt (longest_line rows) (length line) then Refused LongLine (longest_line rows + 1)
    else map_line_meaning rows line
