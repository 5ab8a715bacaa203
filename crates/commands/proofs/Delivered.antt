-- Frames out that were delivered to their file only in part.
use Rattle.commands.proofs.Common.{◌≡◌, ℕ, List, Option, Result, Ok, inr, Keeps, append_known, ErrorKind, FileForm, TaskOutcome, IsWriteFailureBy, EndsTask}
use Rattle.host.specs.declared.errors.HostError.{HostError}
use Rattle.host.specs.declared.tallies.Tally.{Tally}

-- the stream came to its end, and then the file failed, and lacks the bytes that still wait
pub fails_at_the_end : (name waits : List ℕ) (cause : Option ErrorKind) (form : FileForm)
    (ended : Result Tally HostError) (tally : Tally) (handed got : Option (List ℕ))
    (r : TaskOutcome) → ended ≡ Ok tally
    → Keeps handed (append_known got waits) → IsWriteFailureBy name cause r
    → EndsTask name cause form ended handed got r
fails_at_the_end name waits cause form ended tally handed got r e kept failed =
    rw e (inr ((waits, kept), failed))
