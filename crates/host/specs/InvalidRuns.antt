-- The packet frames of a stream whose runs end with INVALID: r0 names no action at the exit.
use Rattle.std.specs.Prelude.{◌≡◌, ℕ, ◌+◌, ◌-◌, ◌^◌, min, if◌then◌else◌, List, [], ◌∷◌, ◌++◌, length, Option, Some, None, Result, Ok, Err, slice_get}
use Rattle.std.specs.Option.{option_or}
use Rattle.isa_model.specs.declared.ends.End.{End}
use Rattle.isa_model.specs.declared.ends.End.TheVariants.{Exit, Trap, Limit}
use Rattle.isa_model.specs.Machine.States.{KeyValues}
use Rattle.isa_model.specs.Reporting.Frames.{action_of}
use Rattle.isa_model.specs.Reporting.Streams.{PacketFrame, Stream}
use Rattle.isa_model.specs.Reporting.Reports.{Rule, turn_on, contents_left, checked_rule, starting_contents}
use Rattle.bounds.specs.Bounds.{Bounded}
use Rattle.frames.specs.Sources.{Origin}
use Rattle.host.specs.declared.errors.HostError.{HostError}
use Rattle.host.specs.declared.invalid.InvalidFrame.{InvalidFrame}
use Rattle.host.specs.declared.invalid.InvalidFrames.{InvalidFrames}
use Rattle.host.specs.declared.noting.Ran.{Ran}
use Rattle.host.specs.declared.tallies.Tally.{Tally}
use Rattle.host.specs.Accepted.{ReportsRunFrom}
use Rattle.host.specs.Counts.{end_of}
use Rattle.host.specs.EndCounts.{one_more}
use Rattle.host.specs.Stops.{Noting, is_invalid}
use Rattle.host.specs.Tallies.{ShowsTally}
use Rattle.host.specs.Turns.{rule_of}
use Rattle.host.specs.Writing.{Outputs}

-- the frame with this number, if its run ended with INVALID
abbrev pub invalid_end : ℕ → Option End → List InvalidFrame
invalid_end number None = []
invalid_end number (Some (Exit answer steps)) =
    if is_invalid (action_of answer) then record { frame = number; answer = answer } ∷ [] else []
invalid_end number (Some (Trap reason steps)) = []
invalid_end number (Some Limit) = []

-- the frames whose runs end with INVALID, in their order; the first of all frames has this number,
-- and the maps' contents are carried along
abbrev pub invalid_in : Rule → ℕ → List KeyValues → List PacketFrame → List InvalidFrame
invalid_in rule number contents [] = []
invalid_in rule number contents (f ∷ frames) =
    let t = turn_on rule contents f in
    invalid_end number (end_of t)
    ++ invalid_in rule (number + 1) (contents_left contents t) frames

-- the first of some frames, and how many there are; a count has room for every frame of a stream
abbrev pub invalid_of : List InvalidFrame → InvalidFrames
invalid_of frames =
    record { first = slice_get frames 0; count = min (length frames) (2 ^ 32 - 1) }

-- ---- frames one after another

-- one more frame whose run ended with INVALID
abbrev pub with_invalid : InvalidFrames → InvalidFrame → InvalidFrames
with_invalid noted f =
    record { first = option_or noted.first (Some f); count = one_more noted.count }

-- one more frame, by how its run ended
abbrev pub with_invalid_end : InvalidFrames → ℕ → End → InvalidFrames
with_invalid_end noted number (Exit answer steps) =
    if is_invalid (action_of answer)
    then with_invalid noted (record { frame = number; answer = answer })
    else noted
with_invalid_end noted number (Trap reason steps) = noted
with_invalid_end noted number Limit = noted

-- notes each frame whose run ended with INVALID
abbrev pub invalid_notes : Bounded → Noting InvalidFrames
invalid_notes a =
    record {
      run = λ noted number head body contents.
          with_invalid_end noted number (rule_of a head body contents).ends;
      skip = λ noted. noted;
    }

-- ---- runs over streams

-- what the last line shows, and the first and the count of the stream's frames whose runs end with
-- INVALID
abbrev pub ShowsInvalid : Bounded → List KeyValues → Stream → List KeyValues → Ran → Type 0
ShowsInvalid a contents found last ran =
    ShowsTally found ran.tally
    × (ran.invalid
    ≡ invalid_of (invalid_in (checked_rule a.program a.bound) 0 contents found.frames))

-- the report is written, from new maps on, and the result shows which runs ended with INVALID
abbrev pub ReportsNoted : Bounded → Origin → Outputs → Outputs → Result Ran HostError → Type 0
ReportsNoted a source old new result =
    ReportsRunFrom a (starting_contents a.program.maps) source
    (ShowsInvalid a (starting_contents a.program.maps)) old new result

-- the tally alone
abbrev pub tally_ran : Result Ran HostError → Result Tally HostError
tally_ran (Ok ran) = Ok ran.tally
tally_ran (Err error) = Err error
