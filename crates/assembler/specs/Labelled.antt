-- Statements with their labels.
use Rattle.std.specs.Prelude.{ℕ, ◌==◌, Bool, true, false, if◌then◌else◌, List, map, length, slice_get, Option, Some, is_ok, Result, Ok, Err, ◌&&◌, ◌||◌}
use Rattle.assembler.specs.declared.tokens.Word.TheVariants as word
use Rattle.assembler.specs.declared.tokens.Sign.TheVariants as sign
use Rattle.assembler.specs.declared.tokens.Token.{Token}
use Rattle.assembler.specs.declared.tokens.Token.TheVariants.{Named, Number, Signed}
use Rattle.assembler.specs.declared.readings.Statement.{Statement}
use Rattle.assembler.specs.declared.readings.Statement.TheVariants.{Empty, Version, Row, Instruction}
use Rattle.assembler.specs.declared.wrong.Wrong.{Wrong}
use Rattle.assembler.specs.declared.wrong.Wrong.TheVariants.{Form, Range}
use Rattle.assembler.specs.Operands.{◌>>=◌, keep, is_name, number_at}
use Rattle.assembler.specs.Statements.{reading_of, map_line}

-- ---- what follows a label

-- whether a map line begins with that token
abbrev pub begins_map_line : Option Token → Bool
begins_map_line (Some (Named word.Map)) = true
begins_map_line t = false

-- whether a version line begins with that token
abbrev pub begins_version_line : Option Token → Bool
begins_version_line (Some (Named word.Version)) = true
begins_version_line t = false

-- the number of a version line
abbrev pub version_number : List Token → Result ℕ Wrong
version_number ts = number_at ts 1 >>= λ n. keep (length ts == 2) n

-- `version 2`: another number is out of range
abbrev pub version_line : List Token → Result Statement Wrong
version_line ts = version_number ts >>= λ n. if n == 2 then Ok Version else Err (Range 1)

-- nothing, a map line or an instruction
abbrev pub spelled : List Token → Result Statement Wrong
spelled ts =
    if length ts == 0 then Ok Empty
    else if begins_map_line (slice_get ts 0) then (map_line ts >>= λ row. Ok (Row row))
    else (reading_of ts >>= λ r. Ok (Instruction r))

-- what the tokens of a statement spell, which follow the k tokens of its label; a version line has
-- no label
abbrev pub spelled_behind : ℕ → List Token → Result Statement Wrong
spelled_behind k ts =
    if begins_version_line (slice_get ts 0) then (if k == 0 then version_line ts else Err Form)
    else spelled ts

-- whether a form fits them: a version line whatever its number is, or an instruction
abbrev pub fits_form : List Token → Bool
fits_form ts =
    (begins_version_line (slice_get ts 0) && is_ok (version_number ts)) || is_ok (reading_of ts)

-- the token, with 0 in place of a number: 0 is in all ranges of instructions
abbrev pub zeroed : Token → Token
zeroed (Number n) = Number 0
zeroed t = t

-- whether a form fits the tokens but for the ranges of their numbers
abbrev pub has_form : List Token → Bool
has_form ts = fits_form (map zeroed ts)

-- ---- labels

-- a name, and a colon after it
abbrev pub is_label : Option Token → Option Token → Bool
is_label (Some (Named x)) (Some (Signed sign.Colon)) = is_name x
is_label t u = false

-- how many tokens the label of a statement has
abbrev pub label_length : List Token → ℕ
label_length ts = if is_label (slice_get ts 0) (slice_get ts 1) then 2 else 0
