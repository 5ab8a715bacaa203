-- The text of what maps hold.
use Rattle.std.specs.Prelude.{◌≡◌, ℕ, ◌≤◌, List, length, All}
use Rattle.std.specs.List.{flat_map}
use Rattle.isa_model.specs.declared.map_defs.MapDef.{MapDef}
use Rattle.isa_model.specs.Code.Limits.{max_key_size, max_value_size}
use Rattle.isa_model.specs.Machine.States.{KeyValues}
use Rattle.isa_model.specs.Reporting.Reports.{map_line, maps_pieces, report_bytes, starting_contents}
use Rattle.isa_model.specs.Reporting.Streams.{ByEnd}
use Rattle.map_texts.specs.Fillings.{accepted, filled_by}

-- the lines that a report has for maps of these rows and contents
abbrev pub text_of : List MapDef → List KeyValues → List ℕ
text_of rows contents = report_bytes (maps_pieces 0 rows contents)

-- the text fills new maps of these rows with these contents
abbrev pub ReadsBack : List MapDef → List KeyValues → Type 0
ReadsBack rows contents =
    filled_by rows (starting_contents rows)
    (record { bytes = text_of rows contents; ending = ByEnd }) ≡ accepted contents

-- the lines of these keys and values of a map
abbrev pub lines_of : ℕ → KeyValues → List ℕ
lines_of index es = flat_map (map_line index) es

-- no more keys than the row has room for, each of the row's size and with a value that is not too
-- long
pub record FitListing (row : MapDef) (es : KeyValues) : Type 0 where
  pub short_keys : row.key_size ≤ max_key_size
  pub room : length es ≤ row.entries
  pub sizes : All (λ e. (length e.0 ≡ row.key_size) × (length e.1 ≤ max_value_size)) es
