-- Positions in texts: lines and columns, counted from 1; columns in bytes.
use Rattle.std.specs.Prelude.{ℕ, ◌+◌, ◌==◌, List, take, count_by, reverse}
use Rattle.std.specs.List.{prefix_len}
use Rattle.assembler.specs.Lexing.{is_line_byte}
use Rattle.assembler.specs.declared.errors.AsmError.{AsmError}
use Rattle.assembler.specs.declared.refusals.Refusal.{Refusal}

-- the line of the byte after these
abbrev pub line_behind : List ℕ → ℕ
line_behind front = count_by (λ b. b == 10) front + 1

-- its column
abbrev pub column_behind : List ℕ → ℕ
column_behind front = prefix_len is_line_byte (reverse front) + 1

-- a refusal with its line and column
abbrev pub error_at : List ℕ → Refusal → AsmError
error_at text refusal =
    let front = take refusal.offset text in
    record { kind = refusal.kind; line = line_behind front; column = column_behind front }
