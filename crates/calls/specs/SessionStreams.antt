-- What the call that runs an open program over a stream returns.
use Rattle.std.specs.Prelude.{◌≡◌, ℕ, List, length, Err}
use Rattle.isa_model.specs.Machine.States.{KeyValues}
use Rattle.machine.specs.Running.{Running}
use Rattle.frames.specs.Sources.{in_memory}
use Rattle.host.specs.declared.errors.HostError.{HostError}
use Rattle.host.specs.declared.tallies.Tally.{Tally}
use Rattle.host.specs.OnMachines.{ReportsOn, bounded_of}
use Rattle.host.specs.Writing.{Outputs}
use Rattle.calls.specs.Crossing.{filled}
use Rattle.calls.specs.declared.streaming.Streamed.{Streamed}
use Rattle.calls.specs.Streams.{WritesStreamFrom, streamed_of}

-- the open program runs over a stream of these bytes, from what its maps hold on, and writes this
-- report and these frames out; program and bound stay, and the maps keep what the last frame left
pub record StreamsMachine (source report sent : List ℕ) (tally : Tally)
    (before after : Running) : Type 0 where
  pub writes : WritesStreamFrom (bounded_of before) before.contents source report sent tally
  pub machine : after ≡ record before { contents = writes.runs.is_report.last }

-- the same, and the buffers hold what is written, as far as there is room
pub record StreamsSession (source old_report old_sent new_report new_sent : List ℕ)
    (out : Streamed) (before after : Running) : Type 0 where
  pub report : List ℕ
  pub sent : List ℕ
  pub tally : Tally
  pub streams : StreamsMachine source report sent tally before after
  pub report_is : new_report ≡ filled old_report report
  pub sent_is : new_sent ≡ filled old_sent sent
  pub out_is : out ≡ streamed_of tally (length report) (length sent)

-- memory for an output ran out in such a run; program and bound stay, and the maps hold what the
-- frames left that had been taken
pub record StopsStream (source : List ℕ) (before after : Running) : Type 0 where
  pub old : Outputs
  pub new : Outputs
  pub error : HostError
  pub left : List KeyValues
  pub reports : ReportsOn before left (in_memory source) old new (Err error)
  pub machine : after ≡ record before { contents = left }
