-- What a program's maps hold before the first frame, and how a task ends without that.
use Rattle.std.specs.Prelude.{◌≡◌, ◌⊎◌, ℕ, List, Option, Some, None, Err}
use Rattle.isa_model.specs.{Program}
use Rattle.isa_model.specs.Machine.States.{KeyValues}
use Rattle.isa_model.specs.Reporting.Streams.{Input}
use Rattle.isa_model.specs.Reporting.Reports.{starting_contents}
use Rattle.maps.specs.Maps.{MapState}
use Rattle.map_texts.specs.declared.errors.MapTextError.{MapTextError}
use Rattle.map_texts.specs.declared.errors.MapTextErrorKind.{MapTextErrorKind}
use Rattle.map_texts.specs.declared.errors.MapTextErrorKind.TheVariants.{ReadFailed}
use Rattle.map_texts.specs.Fillings.{accepted, filled_by}
use Rattle.map_texts.specs.Reading.{AreFilledFrom}
use Rattle.commands.specs.declared.outcomes.TaskOutcome.{TaskOutcome}
use Rattle.commands.specs.declared.outcomes.TaskOutcome.TheVariants.{Refused}
use Rattle.messages.specs.declared.rejections.Rejection.TheVariants as rejection
use Rattle.commands.specs.Files.{ReadsNone}
use Rattle.messages.specs.Lines.{maps_line}
use Rattle.commands.specs.Saying.{LacksMemory, Says}

-- the contents are those of new maps, or of new maps after the lines of a text that was read
abbrev pub BeginsWith : Program → Option (List ℕ) → List KeyValues → Type 0
BeginsWith p None contents = contents ≡ starting_contents p.maps
BeginsWith p (Some path) contents =
    (text : Input) × (filled_by p.maps (starting_contents p.maps) text ≡ accepted contents)

-- standard output says why the text is refused, and where; or the file at the path could not be
-- read to its end; or memory ran out
abbrev pub SaysKind : MapTextErrorKind → MapTextError → List ℕ → Option (List ℕ) → Option (List ℕ)
    → TaskOutcome → Type 0
SaysKind ReadFailed error path old new result = ReadsNone path old new result
SaysKind kind error path old new result =
    LacksMemory old new result
    ⊎ Says old new (maps_line error) (Refused (rejection.Maps error)) result

abbrev pub SaysTextError : MapTextError → List ℕ → Option (List ℕ) → Option (List ℕ) → TaskOutcome
    → Type 0
SaysTextError error path old new result = SaysKind error.kind error path old new result

-- the text of a source does not fill the maps, and standard output says why
abbrev pub RefusesMapText : Option (List ℕ) → List MapState → List ℕ → Option (List ℕ)
    → Option (List ℕ) → TaskOutcome → Type 0
RefusesMapText source maps path old new result =
    (error : MapTextError) × (filled : List MapState)
    × AreFilledFrom source maps filled (Err error) × SaysTextError error path old new result

-- a text that was read does not fill new maps of the program
abbrev pub RefusesFile : Program → List ℕ → Option (List ℕ) → Option (List ℕ) → TaskOutcome → Type 0
RefusesFile p path old new result =
    (text : Input) × (error : MapTextError)
    × ((filled_by p.maps (starting_contents p.maps) text).error ≡ Some error)
    × SaysTextError error path old new result

-- there was no memory for the maps, or their text could not be read, or it is refused
abbrev pub BeginsNot : Program → Option (List ℕ) → Option (List ℕ) → Option (List ℕ) → TaskOutcome
    → Type 0
BeginsNot p None old new result = LacksMemory old new result
BeginsNot p (Some path) old new result =
    ReadsNone path old new result ⊎ RefusesFile p path old new result
