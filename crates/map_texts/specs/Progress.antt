-- How far a text has been read: what is left to be read does to the maps what all of it would have
-- done, whatever follows.
use Rattle.std.specs.Prelude.{◌≡◌, ℕ, ◌+◌, ◌<◌, ◌≤◌, min, Bool, true, false, List, ◌++◌, length, take, drop, slice_range, All, Option, Some, None, Result, Ok, Err}
use Rattle.std.specs.List.{slice_split}
use Rattle.isa_model.specs.declared.map_defs.MapDef.{MapDef}
use Rattle.isa_model.specs.Machine.States.{KeyValues}
use Rattle.isa_model.specs.Reporting.Streams.{InputEnding}
use Rattle.map_texts.specs.declared.errors.MapTextError.{MapTextError}
use Rattle.map_texts.specs.declared.filling.Taken.{Taken}
use Rattle.map_texts.specs.declared.filling.Pending.{Pending}
use Rattle.map_texts.specs.Lines.{is_passed, is_too_long, most_line_size}
use Rattle.map_texts.specs.Fillings.{FilledMaps, is_line_feed, after_lines}

-- where a text stands: the number of the line that these bytes begin, and what the maps hold
abbrev pub left_of : List MapDef → ℕ → List KeyValues → List ℕ → InputEnding → List ℕ → FilledMaps
left_of rows number contents bytes ending more =
    after_lines ending rows number contents (slice_split is_line_feed (bytes ++ more))

abbrev pub GoesOnReading : List MapDef → ℕ → List KeyValues → List ℕ → ℕ → List KeyValues → List ℕ
    → Type 0
GoesOnReading rows number contents bytes later held rest =
    (ending : InputEnding) (more : List ℕ)
    → left_of rows number contents bytes ending more ≡ left_of rows later held rest ending more

abbrev pub StopsFilling : List MapDef → ℕ → List KeyValues → List ℕ → List KeyValues → MapTextError
    → Type 0
StopsFilling rows number contents bytes held error =
    (ending : InputEnding) (more : List ℕ)
    → left_of rows number contents bytes ending more
    ≡ record { contents = held; error = Some error }

abbrev pub NoFeed : ℕ → Type 0
NoFeed b = is_line_feed b ≡ false

abbrev pub HasNoFeed : List ℕ → Type 0
HasNoFeed bytes = All NoFeed bytes

-- the lines that are whole were taken, or one was refused
pub record AreTaken (rows : List MapDef) (number : ℕ) (old new : List KeyValues)
    (bytes : List ℕ) (taken : Taken) : Type 0 where
  pub inside : taken.start ≤ length bytes
  pub few : taken.number ≤ number + taken.start
  pub unended : HasNoFeed (drop taken.start bytes)
  pub goes_on : GoesOnReading rows number old bytes taken.number new (drop taken.start bytes)

-- the same, where the bytes from `at` on have not been looked at
pub record AreTakenTo (rows : List MapDef) (number : ℕ) (old new : List KeyValues)
    (bytes : List ℕ) (at : ℕ) (taken : Taken) : Type 0 where
  pub inside : taken.start ≤ at
  pub few : taken.number ≤ number + taken.start
  pub unended : HasNoFeed (slice_range bytes taken.start at)
  pub goes_on : GoesOnReading rows number old bytes taken.number new (drop taken.start bytes)

abbrev pub TakesLines : List MapDef → ℕ → (old new : List KeyValues) → List ℕ
    → Result Taken MapTextError → Type 0
TakesLines rows number old new bytes (Ok taken) = AreTaken rows number old new bytes taken
TakesLines rows number old new bytes (Err error) = StopsFilling rows number old bytes new error

-- how much of a line is kept, by whether it is passed over: its front, all of it, or nothing if it
-- is too long
abbrev pub KeepsBy : Bool → ℕ → List ℕ → Option ℕ → Type 0
KeepsBy true longest line kept = kept ≡ Some (min (length line) 5)
KeepsBy false longest line (Some n) = (n ≡ length line) × (n ≤ longest)
KeepsBy false longest line None = longest < length line

abbrev pub Keeps : ℕ → List ℕ → Option ℕ → Type 0
Keeps longest line kept = KeepsBy (is_passed line) longest line kept

-- the part of a line that was read
pub record IsPending (rows : List MapDef) (bytes : List ℕ) : Type 0 where
  pub unended : HasNoFeed bytes
  pub allowed : is_too_long rows bytes ≡ false
  pub room : length bytes ≤ most_line_size

pub record ArePending (rows : List MapDef) (number : ℕ) (old new : List KeyValues)
    (bytes buffer : List ℕ) (pending : Pending) : Type 0 where
  pub is_pending : IsPending rows (take pending.len buffer)
  pub len : pending.len ≤ most_line_size
  pub few : pending.number ≤ number + length bytes
  pub goes_on : GoesOnReading rows number old bytes pending.number new (take pending.len buffer)

abbrev pub TakesBytes : List MapDef → ℕ → (old new : List KeyValues) → (bytes buffer : List ℕ)
    → Result Pending MapTextError → Type 0
TakesBytes rows number old new bytes buffer (Ok pending) =
    ArePending rows number old new bytes buffer pending
TakesBytes rows number old new bytes buffer (Err error) =
    StopsFilling rows number old bytes new error
