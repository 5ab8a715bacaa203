-- What maps hold after the lines of a text, and why the text is refused.
use Rattle.std.specs.Prelude.{ℕ, ◌+◌, ◌==◌, Bool, if◌then◌else◌, List, [], ◌∷◌, Option, Some, None, slice_set, slice_index_or}
use Rattle.std.specs.List.{slice_split}
use Rattle.isa_model.specs.declared.map_defs.MapDef.{MapDef}
use Rattle.isa_model.specs.Machine.MapContents.{update_answer, after_update}
use Rattle.isa_model.specs.Machine.States.{KeyValues}
use Rattle.isa_model.specs.Reporting.Streams.{Input, InputEnding, ByEnd, ByError}
use Rattle.map_texts.specs.declared.errors.MapTextError.{MapTextError}
use Rattle.map_texts.specs.declared.errors.MapTextErrorKind.{MapTextErrorKind}
use Rattle.map_texts.specs.declared.errors.MapTextErrorKind.TheVariants.{NoRoom, LongLine, ReadFailed}
use Rattle.map_texts.specs.Lines.{Meaning, Passed, Update, Refused, line_meaning, longest_line, is_too_long}

-- what the maps hold, and why the text was refused, if it was
pub record FilledMaps : Type 0 where
  pub contents : List KeyValues
  pub error : Option MapTextError

abbrev pub accepted : List KeyValues → FilledMaps
accepted contents = record { contents = contents; error = None }

abbrev pub refused : List KeyValues → MapTextErrorKind → (line column : ℕ) → FilledMaps
refused contents kind line column =
    record {
      contents = contents;
      error = Some (record { kind = kind; line = line; column = column });
    }

-- ---- one line, by its number

-- an update with the flag ANY, where the helper answers 0
abbrev pub updated : List KeyValues → ℕ → MapDef → (key value : List ℕ) → List KeyValues
updated contents index row key value =
    slice_set contents index (after_update row (slice_index_or contents index []) key value 0)

abbrev pub after_meaning : ℕ → List KeyValues → Meaning → FilledMaps
after_meaning number contents Passed = accepted contents
after_meaning number contents (Update index row key value column) =
    if update_answer row (slice_index_or contents index []) key 0 == 0
    then accepted (updated contents index row key value)
    else refused contents NoRoom number column
after_meaning number contents (Refused kind column) = refused contents kind number column

abbrev pub after_line : List MapDef → ℕ → List KeyValues → List ℕ → FilledMaps
after_line rows number contents line = after_meaning number contents (line_meaning rows line)

-- a line that the source's error cut off: it is refused only where no rest of it could mend it
abbrev pub after_cut_line : List MapDef → ℕ → List KeyValues → List ℕ → FilledMaps
after_cut_line rows number contents line =
    if is_too_long rows line then refused contents LongLine number (longest_line rows + 1)
    else refused contents ReadFailed number 1

-- the last line of a text; what follows the last line feed is one, too
abbrev pub after_last_line : InputEnding → List MapDef → ℕ → List KeyValues → List ℕ → FilledMaps
after_last_line ByEnd rows number contents line = after_line rows number contents line
after_last_line ByError rows number contents line = after_cut_line rows number contents line

-- ---- all lines

abbrev pub is_line_feed : ℕ → Bool
is_line_feed b = b == 10

-- the first refusal is the last line that counts
abbrev pub and_then : (List KeyValues → FilledMaps) → FilledMaps → Option MapTextError → FilledMaps
and_then next filled None = next filled.contents
and_then next filled (Some error) = filled

-- after the lines of a text, the first of them with this number
unfoldable pub after_lines : InputEnding → List MapDef → ℕ → List KeyValues → List (List ℕ)
    → FilledMaps
after_lines ending rows number contents [] = accepted contents
after_lines ending rows number contents (line ∷ lines) =
    elim lines [
      | [] ↦ after_last_line ending rows number contents line
      | next ∷ rest ↦
          let filled = after_line rows number contents line in
          and_then (λ more. after_lines ending rows (number + 1) more lines) filled filled.error
    ]

-- after a text, in maps that have these rows and hold these contents
abbrev pub filled_by : List MapDef → List KeyValues → Input → FilledMaps
filled_by rows contents input =
    after_lines input.ending rows 1 contents (slice_split is_line_feed input.bytes)
