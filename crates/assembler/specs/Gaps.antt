-- Texts from which bytes were dropped that change nothing.
use Rattle.std.specs.Prelude.{◌≡◌, ℕ, ◌+◌, ◌-◌, ◌==◌, nat_lt, ◌&&◌, ◌||◌, if◌then◌else◌, Bool, List, [], ◌∷◌, ◌++◌, take, drop, Result, Ok, Err}
use Rattle.isa_model.specs.Code.Instructions.{Program}
use Rattle.assembler.specs.declared.errors.AsmError.{AsmError}
use Rattle.assembler.specs.declared.gaps.Gap.{Gap}
use Rattle.assembler.specs.Positions.{line_behind, column_behind}
use Rattle.assembler.specs.Assembling.{assembled}

-- the bytes of a text without those from one index up to another
abbrev pub without : ℕ → ℕ → List ℕ → List ℕ
without from to text = take from text ++ drop to text

-- where they were: the line and the column of the next byte, without them and with them
abbrev pub gap_of : ℕ → ℕ → List ℕ → Gap
gap_of from to text = record {
  line = line_behind (take from text);
  column = column_behind (take from text);
  old_line = line_behind (take to text);
  old_column = column_behind (take to text);
}

-- whether a position is before the gap
abbrev pub is_before : Gap → AsmError → Bool
is_before gap e =
    nat_lt e.line gap.line || ((e.line == gap.line) && nat_lt e.column gap.column)

-- where an error was with these bytes that is there without them
abbrev pub placed : Gap → AsmError → AsmError
placed gap e =
    if is_before gap e then e
    else record {
      kind = e.kind;
      line = (e.line - gap.line) + gap.old_line;
      column = if e.line == gap.line then (e.column - gap.column) + gap.old_column else e.column;
    }

abbrev pub in_place : Gap → Result Program AsmError → Result Program AsmError
in_place gap (Ok p) = Ok p
in_place gap (Err e) = Err (placed gap e)

-- the same of gaps that were made one after another
abbrev pub all_placed : List Gap → AsmError → AsmError
all_placed [] e = e
all_placed (gap ∷ gaps) e = placed gap (all_placed gaps e)

abbrev pub all_in_place : List Gap → Result Program AsmError → Result Program AsmError
all_in_place gaps (Ok p) = Ok p
all_in_place gaps (Err e) = Err (all_placed gaps e)

-- however the text goes on, it spells the same without these bytes, or is refused for the same at
-- the same place
abbrev pub IsIdle : ℕ → ℕ → List ℕ → Type 0
IsIdle from to text = (more : List ℕ)
    → assembled (text ++ more)
    ≡ in_place (gap_of from to text) (assembled (without from to text ++ more))
