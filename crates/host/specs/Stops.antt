-- What is noted of the packet frames whose runs end without an action.
use Rattle.std.specs.Prelude.{◌≡◌, ℕ, ◌+◌, ◌==◌, nat_lt, Bool, true, false, if◌then◌else◌, List, [], ◌∷◌, ◌++◌, length, Option, Some, None, slice_set, get_or}
use Rattle.std.specs.List.{position}
use Rattle.isa_model.specs.declared.frames.Action.{Action}
use Rattle.isa_model.specs.declared.frames.Action.TheVariants as action
use Rattle.isa_model.specs.declared.frames.FrameHead.{FrameHead}
use Rattle.isa_model.specs.declared.ends.End.{End}
use Rattle.isa_model.specs.declared.ends.End.TheVariants.{Exit, Trap, Limit}
use Rattle.isa_model.specs.Reporting.Frames.{action_of}
use Rattle.isa_model.specs.Reporting.Streams.{PacketFrame, Stream}
use Rattle.isa_model.specs.declared.map_defs.MapDef.{MapDef}
use Rattle.isa_model.specs.Reporting.Reports.{Rule, turn_on, contents_left, contents_after, checked_rule, starting_contents}
use Rattle.isa_model.specs.Code.Instructions.{Program}
use Rattle.isa_model.specs.Machine.States.{KeyValues}
use Rattle.maps.specs.Maps.{MapState, rows_of, contents_of}
use Rattle.checked_vm.specs.declared.stops.RunEnd.{RunEnd}
use Rattle.checked_vm.specs.Stops.{stop_of}
use Rattle.host.specs.declared.stops.FrameStop.{FrameStop}
use Rattle.host.specs.declared.stops.Stops.{Stops}
use Rattle.host.specs.declared.stops.TheConstants.{MOST_STOPS}
use Rattle.host.specs.declared.traced.Traced.{Traced}
use Rattle.host.specs.EndCounts.{one_more}
use Rattle.host.specs.Tallies.{tally_of}

-- the first frames that were noted at the first slots, and how many were in all
pub record Noted : Type 0 where
  pub first : List FrameStop
  pub count : ℕ

abbrev pub noted_of : Stops → Noted
noted_of stops = record { first = stops.first.items; count = stops.count }

abbrev pub nothing_noted : Noted
nothing_noted = record { first = []; count = 0 }

abbrev pub is_invalid : Action → Bool
is_invalid action.Invalid = true
is_invalid other = false

-- whether a run ended without an action: it trapped, was stopped at the limit, or answered another
-- number
abbrev pub is_noted : End → Bool
is_noted (Exit answer steps) = is_invalid (action_of answer)
is_noted (Trap reason steps) = true
is_noted Limit = true

abbrev pub is_at : ℕ → FrameStop → Bool
is_at slot f = f.stop.slot == slot

-- one more frame stopped where this one did
abbrev pub counting : FrameStop → FrameStop
counting f = record { frame = f.frame; stop = f.stop; count = one_more f.count }

-- a frame that stopped where the one with this index did is counted with that one; another one is
-- kept after the others, while there is room
abbrev pub placed : List FrameStop → FrameStop → Option ℕ → List FrameStop
placed first stopped (Some index) = slice_set first index (counting (get_or first index stopped))
placed first stopped None =
    if nat_lt (length first) MOST_STOPS then first ++ stopped ∷ [] else first

-- keeps the first frame that stopped at each slot, while there is room
abbrev pub with_first : List FrameStop → FrameStop → List FrameStop
with_first first stopped = placed first stopped (position (is_at stopped.stop.slot) first)

-- the run of the frame with this number stopped there
abbrev pub note : Noted → ℕ → RunEnd → Noted
note noted number stop =
    if is_noted stop.end
    then record {
      first = with_first noted.first (record { frame = number; stop = stop; count = 1 });
      count = one_more noted.count;
    }
    else noted

-- ---- frames one after another

-- what is noted of a frame that is run on map contents, and of one that is passed over
pub record Noting (N : Type 0) : Type 0 where
  pub run : N → ℕ → FrameHead → List ℕ → List KeyValues → N
  pub skip : N → N

-- a frame is run unless it has a reason
abbrev pub noted_on : {N : Type 0} → Noting N → N → ℕ → List KeyValues → PacketFrame → N
noted_on notes noted number contents f =
    if f.reason == 0 then notes.run noted number f.head f.body contents else notes.skip noted

-- frames from this number on, each run on the contents that the one before left
abbrev pub noted_after : {N : Type 0} → Noting N → Rule → N → ℕ → List KeyValues
    → List PacketFrame → N
noted_after notes rule noted number contents [] = noted
noted_after notes rule noted number contents (f ∷ frames) =
    noted_after notes rule (noted_on notes noted number contents f) (number + 1)
    (contents_left contents (turn_on rule contents f)) frames

-- notes where each run on the checked machine stopped; every answer of the clock is the frame's
-- time
abbrev pub checked_notes : Program → ℕ → Noting Noted
checked_notes p limit =
    record {
      run = λ noted number head body contents.
          note noted number (stop_of p limit (λ k. head.time) head body contents);
      skip = λ noted. noted;
    }

-- nothing is noted
abbrev pub no_notes : Noting (Unit {0})
no_notes = record { run = λ noted number head body contents. noted; skip = λ noted. noted }

-- ---- runs over streams

-- maps with these rows and these contents
abbrev pub AreMaps : List MapDef → List KeyValues → List MapState → Type 0
AreMaps rows contents maps = (rows_of maps ≡ rows) × (contents_of maps ≡ contents)

-- What the last line shows, where the runs of the stream's frames stopped, and the maps as the last
-- of them leaves them: of a run over a stream with checks, from these contents of the maps on.
abbrev pub ShowsTracedFrom : Program → ℕ → List KeyValues → Stream → Traced → Type 0
ShowsTracedFrom p limit contents found traced =
    (traced.tally ≡ tally_of (length found.frames) found.finish)
    × (noted_of traced.stops
    ≡ noted_after (checked_notes p limit) (checked_rule p limit) nothing_noted 0 contents
    found.frames)
    × AreMaps p.maps (contents_after (checked_rule p limit) contents found.frames) traced.maps

-- from new maps on
abbrev pub ShowsTraced : Program → ℕ → Stream → Traced → Type 0
ShowsTraced p limit found traced =
    ShowsTracedFrom p limit (starting_contents p.maps) found traced
