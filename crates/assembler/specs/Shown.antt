-- The line in which a text is refused, and a caret under the column.
use Rattle.std.specs.Prelude.{ℕ, zero, suc, ◌-◌, ◌==◌, nat_le, nat_lt, ◌&&◌, ◌||◌, List, [], ◌++◌, map, length, take, drop, codes, if◌then◌else◌}
use Rattle.std.specs.List.{prefix_len}
use Rattle.assembler.specs.Lexing.{is_line_byte}
use Rattle.assembler.specs.declared.errors.AsmError.{AsmError}
use Rattle.assembler.specs.declared.showing.TheConstants.{MAX_SEARCHED}
use Rattle.assembler.specs.Hints.{hint}

-- ---- the line

-- what follows the first line feed
abbrev pub after_line : List ℕ → List ℕ
after_line bs = drop 1 (drop (prefix_len is_line_byte bs) bs)

-- the text without its first n lines
abbrev pub after_lines : ℕ → List ℕ → List ℕ
after_lines zero bs = bs
after_lines (suc n) bs = after_line (after_lines n bs)

-- the bytes of a line, counted from 1
abbrev pub line_of : ℕ → List ℕ → List ℕ
line_of line bs = let rest = after_lines (line - 1) bs in take (prefix_len is_line_byte rest) rest

-- the bytes of it before a column, counted from 1, and those from there on
abbrev pub before : ℕ → List ℕ → List ℕ
before column bs = take (column - 1) bs

abbrev pub from : ℕ → List ℕ → List ℕ
from column bs = drop (column - 1) bs

-- of these, what a hint looks at
abbrev pub searched : List ℕ → List ℕ
searched bs = take MAX_SEARCHED bs

-- ---- what is shown of it

-- tabs and printable ASCII stay, and every other byte becomes a question mark
abbrev pub shown_byte : ℕ → ℕ
shown_byte b = if (b == 9) || (nat_le 32 b && nat_lt b 127) then b else 63

-- a tab below a tab, and a space below every other byte
abbrev pub padding_byte : ℕ → ℕ
padding_byte b = if b == 9 then 9 else 32

-- a line, and a line with a caret; empty lines and those of over 160 bytes are not shown
abbrev pub shown_line : ℕ → List ℕ → List ℕ
shown_line column bs =
    if (length bs == 0) || nat_lt 160 (length bs) then []
    else map shown_byte bs ++ (codes "\n" ++ (map padding_byte (before column bs) ++ codes "^\n"))

-- after the sentence with line and column: the line with the caret, and the hint
abbrev pub shown : List ℕ → AsmError → List ℕ
shown text error =
    let bs = line_of error.line text in
    shown_line error.column bs
    ++ (hint error.kind (searched (before error.column bs)) (searched (from error.column bs))
    ++ codes "\n")
