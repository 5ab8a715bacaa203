-- What is written at the end of a run, and how the task ends then.
use Rattle.std.specs.Prelude.{◌≡◌, ◌⊎◌, ℕ, List, Option, Some, None}
use Rattle.std.specs.Io.KnownBytes.{Appends}
use Rattle.isa_model.specs.declared.map_defs.MapDef.{MapDef}
use Rattle.isa_model.specs.Machine.States.{KeyValues}
use Rattle.host.specs.declared.traced.Counted.{Counted}
use Rattle.host.specs.declared.tallies.Tally.{Tally}
use Rattle.host.specs.Counts.{Totals, totals_of}
use Rattle.maps.specs.Maps.{contents_of, rows_of}
use Rattle.map_texts.specs.Listings.{text_of}
use Rattle.messages.specs.declared.forms.FileForm.{FileForm}
use Rattle.commands.specs.declared.outcomes.TaskOutcome.{TaskOutcome}
use Rattle.commands.specs.Saying.{LacksMemory, Says}
use Rattle.commands.specs.Statuses.{IsWriteFailure}
use Rattle.commands.specs.Streams.{outcome_at}
use Rattle.host.specs.CountLines.{counts_text}
use Rattle.captures.specs.Losing.{TellsUnsaid}
use Rattle.captures.specs.declared.losing.Unsaid.{Unsaid}
use Rattle.commands.specs.declared.endings.Ending.{Ending}

-- the lines say the counts, and the task ends as the stream did; or memory ran out
abbrev pub SaysCounts : Totals → Tally → FileForm → Option (List ℕ) → Option (List ℕ)
    → TaskOutcome → Type 0
SaysCounts totals tally form old new result =
    LacksMemory old new result
    ⊎ Says old new (counts_text totals tally) (outcome_at form tally.fault) result

-- the output for what the maps hold, if it is wanted, got its lines
abbrev pub StoresWanted : List MapDef → List KeyValues → Option (List ℕ) → Type 0
StoresWanted rows contents None = Unit {0}
StoresWanted rows contents (Some path) =
    (before : Option (List ℕ)) × (after : Option (List ℕ))
    × Appends before after (text_of rows contents)

-- that output failed, and nothing was said
abbrev pub StoresNot : Option (List ℕ) → Option (List ℕ) → Option (List ℕ) → TaskOutcome → Type 0
StoresNot None old new result = ⊥
StoresNot (Some path) old new result = IsWriteFailure path result × (new ≡ old)

-- after a run: what the maps hold was written, if that is wanted, and then the counts are said
abbrev pub WritesEnd : Counted → FileForm → Option (List ℕ) → Option (List ℕ) → Option (List ℕ)
    → TaskOutcome → Type 0
WritesEnd counted form maps_out old new result =
    (StoresWanted (rows_of counted.traced.maps) (contents_of counted.traced.maps) maps_out
    × SaysCounts (totals_of counted.counts) counted.traced.tally form old new result)
    ⊎ StoresNot maps_out old new result

-- the property holds of the task's outcome, and its message has at its end what is not kept of the
-- frames
abbrev pub WithUnsaid : (TaskOutcome → Type 0) → Ending → Type 0
WithUnsaid P ending = P ending.outcome × ((unsaid : Unsaid) × TellsUnsaid unsaid ending.why)
