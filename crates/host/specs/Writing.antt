-- What the two outputs hold after pieces of a report were written to them in order, also where
-- writing a piece failed.
use Rattle.std.specs.Prelude.{◌≡◌, ℕ, ◌<◌, List, ◌∷◌, ◌++◌, length, take, Option, Result, MatchResult}
use Rattle.std.specs.Io.KnownBytes.{Appends}
use Rattle.isa_model.specs.Reporting.Reports.{OutputPiece, ToReport, ToFrames, report_part, frames_part, report_bytes, frames_out}
use Rattle.host.specs.declared.errors.HostError.{HostError}
use Rattle.host.specs.declared.errors.HostError.TheVariants as failure

-- what the report and the frames out (`sent`) hold; None where contracts do not know it
pub record Outputs : Type 0 where
  pub report : Option (List ℕ)
  pub sent : Option (List ℕ)

-- the outputs grew by all of the pieces
pub record Wrote (old new : Outputs) (pieces : List OutputPiece) : Type 0 where
  pub report : Appends old.report new.report (report_bytes pieces)
  pub sent : Appends old.sent new.sent (frames_out pieces)

abbrev pub piece_bytes : OutputPiece → List ℕ
piece_bytes (ToReport bytes) = bytes
piece_bytes (ToFrames bytes) = bytes

-- the error for a piece that failed
abbrev pub failure_of : OutputPiece → HostError
failure_of (ToReport bytes) = failure.Report
failure_of (ToFrames bytes) = failure.Frames

-- the outputs grew by the pieces before one that failed, and by a beginning of that one that is
-- shorter than it; nothing else was written
pub record WroteBefore (old new : Outputs) (pieces : List OutputPiece)
    (error : HostError) : Type 0 where
  pub before : List OutputPiece
  pub failed : OutputPiece
  pub rest : List OutputPiece
  pub count : ℕ
  pub split : pieces ≡ before ++ failed ∷ rest
  pub error_is : error ≡ failure_of failed
  pub short : count < length (piece_bytes failed)
  pub report : Appends old.report new.report
      (report_bytes before ++ take count (report_part failed))
  pub sent : Appends old.sent new.sent (frames_out before ++ take count (frames_part failed))

-- all of the pieces were written, or those before one that failed
abbrev pub WritesEach : {X : Type 0} → Outputs → Outputs → Result X HostError → List OutputPiece
    → Type 0
WritesEach old new result pieces =
    MatchResult result (λ _. Wrote old new pieces) (λ error. WroteBefore old new pieces error)

-- the same of pieces for the report only, whatever the frames out have
abbrev pub WritesReport : {X : Type 0} → Option (List ℕ) → Option (List ℕ) → Result X HostError
    → List OutputPiece → Type 0
WritesReport old new result pieces =
    (sent : Option (List ℕ))
    → WritesEach (record { report = old; sent = sent })
    (record { report = new; sent = sent }) result pieces
