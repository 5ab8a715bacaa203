-- Laws of the file that has a capture of the frames out.
use Rattle.filtering.proofs.Common.{◌≡◌, ◌∙◌, ℕ, List, [], ◌∷◌, Option, Some, None, Result, Ok, Err, refl, sym, ap, subst, inl, inr, IfOk, OnOk, option_map, ErrorKind, Origin, TaskOutcome}
use Rattle.std.specs.Prelude.{unwrap_or}
use Rattle.std.specs.Io.KnownBytes.{Keeps, append_known}
use Rattle.std.proofs.KnownBytes.{Appends-kept}
use Rattle.std.proofs.Math.Logic.{∥∥₁_map}
use Rattle.std.proofs.lemmas.List.{append-nil}
use Rattle.frames.specs.declared.writer.Unwritten.{Unwritten}
use Rattle.isa_model.specs.declared.versions.Version.{Version}
use Rattle.captures.specs.declared.kinds.CaptureForm.{CaptureForm}
use Rattle.captures.specs.declared.kinds.LostCounts.{LostCounts}
use Rattle.captures.specs.Writing.{HasWritten, IsWrittenSoFar}
use Rattle.captures.specs.Reached.{reached_by}
use Rattle.captures.specs.declared.frame_forms.FrameForm.TheVariants.{Records}
use Rattle.captures.specs.declared.frame_forms.StreamEnd.{StreamEnd}
use Rattle.captures.specs.declared.placing.Placing.{Placing}
use Rattle.captures.specs.Copies.{CopiesFrames, CopiesWhole}
use Rattle.commands.specs.Streams.{IsBeginningOf}
use Rattle.filtering.specs.Capturing.{HasCaptured}
use Rattle.filtering.specs.Copying.{CapturesAll, Copies}

-- no byte is in the buffer
append_known-nil : (a : Option (List ℕ)) → append_known a [] ≡ a
append_known-nil None = refl
append_known-nil (Some xs) = ap Some (append-nil xs)

-- nothing failed, and the buffer is empty
pub captured-whole : (known : Option CaptureForm) (form : CaptureForm)
    (failure : Option ErrorKind) (version : Option Version) (part : List ℕ) (d : ℕ)
    (l : LostCounts) (origin handed before got : Option (List ℕ)) (waits : List ℕ)
    → unwrap_or known form ≡ form → failure ≡ None → waits ≡ []
    → IsWrittenSoFar form failure version part d l origin handed before (append_known got waits)
    → HasCaptured known l origin handed before got
captured-whole known form (Some kind) version part d l origin handed before got waits f n e w = absurd (cc n)
captured-whole known form None version part d l origin handed before got waits f n e w =
    record {
      form = form;
      is_form = f;
      version = version;
      part = part;
      described = d;
      written = subst (HasWritten form version part d l origin handed before)
          (ap (append_known got) e ∙ append_known-nil got) w;
    }

-- what follows from what a success says
pub on_ok-map : {X E : Type 0} (P Q : Type 0) (r : Result X E) → (P → Q) → OnOk r P → OnOk r Q
on_ok-map P Q (Ok x) f h = f h
on_ok-map P Q (Err e) f h = tt

-- none of it counts
begins-none : (handed handed' : Option (List ℕ)) → Keeps handed handed'
    → IsBeginningOf (option_map (λ bytes. []) handed') handed
begins-none None handed' k = ([], tt)
begins-none (Some xs) None k = absurd k
begins-none (Some xs) (Some ys) k = (xs, refl)

-- the stream of which the file has the capture is a beginning of what was handed on
pub begins-reached : (failure : Option ErrorKind) (waits : List ℕ)
    (handed handed' : Option (List ℕ)) → Keeps handed handed'
    → IsBeginningOf (reached_by failure waits handed') handed
begins-reached None [] handed handed' k =
    ([], subst (Keeps handed) (sym (append_known-nil handed')) k)
begins-reached None (b ∷ waits) handed handed' k = begins-none handed handed' k
begins-reached (Some kind) waits handed handed' k = begins-none handed handed' k

-- a writer of a capture after the frames of a source were copied to it
module _ (known : Option CaptureForm) (form : CaptureForm) (placing : Placing) (source : Origin)
    (failure : Option ErrorKind) (version : Option Version) (part : List ℕ) (d : ℕ) (l : LostCounts)
    (old handed origin before got : Option (List ℕ)) (waits : List ℕ)
    (f : unwrap_or known form ≡ form)
    (so : ∥ IsWrittenSoFar form failure version part d l origin handed before (append_known got waits) ∥₁)
  where
    -- it is that of all of them, where nothing failed and the buffer is empty
    all-of : (copied : Option (List ℕ)) (end : StreamEnd) → failure ≡ None → waits ≡ []
        → CopiesWhole Records placing source old copied end → Keeps copied (reached_by failure waits handed)
        → CapturesAll known placing source old origin before got l end
    all-of copied end n e w kept =
        let same : reached_by failure waits handed ≡ handed =
        ap (λ (x : Option ErrorKind). reached_by x waits handed) n
        ∙ ap (λ (x : List ℕ). reached_by None x handed) e in
        record {
          handed = handed;
          copies = record {
            found = w.found;
            read = w.read;
            wrote = Appends-kept old copied handed _ w.wrote (subst (Keeps copied) same kept);
            counts = w.counts;
            finish = w.finish;
          };
          captures = ∥∥₁_map so (λ x. captured-whole known form failure version part d l origin
              handed before got waits f n e x);
        }

    -- which is so where copying them succeeded
    pub captures-all : (name : List ℕ) (r : Result StreamEnd TaskOutcome)
        → OnOk r ((failure ≡ None) × (waits ≡ []))
        → Copies Records placing source name failure old (reached_by failure waits handed) r
        → IfOk r (CapturesAll known placing source old origin before got l)
    captures-all name (Err o) whole c = tt
    captures-all name (Ok end) whole c =
        elim c.ends [
          | inl (e, is, same, kept) ↦
              let here : e ≡ end = cc in
              all-of c.handed end whole.0 whole.1
              (subst (CopiesWhole Records placing source old c.handed) here
              (subst (λ (x : Result StreamEnd Unwritten). CopiesFrames Records placing source old c.handed x)
              is c.copies)) kept
          | inr (o, is, fails, begins) ↦ let same : Ok end ≡ Err o = is in absurd (cc same)
        ]
