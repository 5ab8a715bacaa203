-- The tally of a run over a stream: how many packet frames it had, and the fault that ended it.
use Rattle.std.specs.Prelude.{◌≡◌, ℕ, length, Option, Some, None, Result, Ok, Err}
use Rattle.isa_model.specs.declared.streams.Fault.{Fault}
use Rattle.isa_model.specs.declared.streams.Finish.{Finish}
use Rattle.isa_model.specs.declared.streams.Finish.TheVariants as finish
use Rattle.isa_model.specs.Reporting.Streams.{Stream}
use Rattle.host.specs.declared.errors.HostError.{HostError}
use Rattle.host.specs.declared.tallies.Tally.{Tally}
use Rattle.host.specs.declared.traced.Traced.{Traced}

-- the fault that ended a stream, and its offset
abbrev pub fault_of : Finish → Option (Fault × ℕ)
fault_of finish.End = None
fault_of (finish.Fault fault offset) = Some (fault, offset)

-- what the last line shows, by how many packet frames there were and how the stream ended
abbrev pub tally_of : ℕ → Finish → Tally
tally_of count ending = record { frames = count; fault = fault_of ending }

-- the tally of a run over a stream, with checks or without, if it came to its last line
abbrev pub tallied : Result Traced HostError → Result Tally HostError
tallied (Ok traced) = Ok traced.tally
tallied (Err error) = Err error

-- the tally is what the last line of the stream's report shows
abbrev pub ShowsTally : Stream → Tally → Type 0
ShowsTally found tally = tally ≡ tally_of (length found.frames) found.finish
