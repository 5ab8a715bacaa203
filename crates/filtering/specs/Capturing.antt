-- What the file of the frames out has, where they became a capture.
use Rattle.std.specs.Prelude.{◌≡◌, ℕ, List, Option, false, unwrap_or}
use Rattle.isa_model.specs.declared.versions.Version.{Version}
use Rattle.captures.specs.declared.kinds.CaptureForm.{CaptureForm}
use Rattle.captures.specs.declared.kinds.CaptureKind.{CaptureKind}
use Rattle.captures.specs.declared.kinds.LostCounts.{LostCounts}
use Rattle.captures.specs.Writing.{HasWritten}

-- What was handed on from `origin` to `handed` is the stream of some frames, up to a part of a next
-- record, and the file, which had `before`, got the capture of these frames, of this form where
-- that is known; `lost` is what it does not say of them.
pub record HasCaptured (known : Option CaptureForm) (lost : LostCounts)
    (origin handed before got : Option (List ℕ)) : Type 0 where
  pub form : CaptureForm
  pub is_form : unwrap_or known form ≡ form
  pub version : Option Version
  pub part : List ℕ
  pub described : ℕ
  pub written : HasWritten form version part described lost origin handed before got

-- the frames that pass have no reason
abbrev pub passing_frames : CaptureKind → CaptureForm
passing_frames kind = record { kind = kind; has_reasons = false }
