-- What a run of an accepted program over bytes in memory writes keeps the promise.
use Rattle.host.proofs.Common.{◌≡◌, [], ℕ, List, Some, Ok, subst, Stream, IsReport, starting_contents, AllExit, Bounded, IsVerified, in_memory, AreReadFrom-in_memory, RunsWhole}
use Rattle.image.specs.Images.{image_bytes}
use Rattle.host.specs.declared.tallies.Tally.{Tally}
use Rattle.host.specs.Promise.{Promised, stream_in}

pub Promised-run : (v : Bounded) (image stream report sent : List ℕ) (tally : Tally)
    → image ≡ image_bytes v.program → IsVerified v
    → RunsWhole v (in_memory stream) (record { report = Some []; sent = Some [] })
    (record { report = Some report; sent = Some sent }) (Ok tally)
    → Promised image stream report sent
Promised-run v image stream report sent tally parsed verified runs =
    let all : runs.found ≡ stream_in stream = AreReadFrom-in_memory stream runs.found runs.read in
    record {
      program = v.program;
      parsed = parsed;
      bound = v.bound;
      verified = verified;
      exits = subst (λ (s : Stream). AllExit v.program v.bound (starting_contents v.program.maps) s.frames) all runs.exits;
      pieces = runs.pieces;
      reported = subst (λ (s : Stream). IsReport v.program s runs.pieces) all runs.is_report;
      report_is = runs.writes.report;
      sent_is = runs.writes.sent;
    }
