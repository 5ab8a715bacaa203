-- What a task did with files is what `Files` defines, by how far it came.
use Rattle.commands.proofs.Common.{◌≡◌, ℕ, List, Option, None, Ok, refl, subst, inl, inr, ◌⊎◌, ErrorKind, KeptText, Program, RunFiles, FileForm, TaskOutcome, Ending, IsReadFailure, IsMakeFailure, RunsAccepted, RunsOn, RunsSome, OpensNone, MakesNone, RefusesTextFile, AssemblesFile, StoresSome}
use Rattle.bounds.specs.Bounds.{Bounded}
use Rattle.commands.specs.Texts.{spelled}
use Rattle.frames.specs.Sources.{Origin}

-- the streams were not opened
pub OpensNone-failed : (files : RunFiles) (old new : Option (List ℕ)) (r : TaskOutcome) → new ≡ old
    → IsReadFailure files.frames r ⊎ IsMakeFailure files.out r → OpensNone files old new r
OpensNone-failed files old new r e (inl h) = inl (h, e)
OpensNone-failed files old new r e (inr h) = inr (h, e)

-- ---- a program with its bound

-- standard output got the report of the runs
pub runs_on : (files : RunFiles) (old new before after : Option (List ℕ)) (source : Origin)
    (form : FileForm) (cause : Option ErrorKind) (v : Bounded) (r : Ending)
    → RunsAccepted v source form files.out cause (record { report = old; sent = before })
    (record { report = new; sent = after }) r → RunsOn files v old new r
runs_on files old new before after source form cause v r runs =
    let some : RunsSome v files.out old new r = record {
      source = source;
      form = form;
      before = before;
      after = after;
      cause = cause;
      runs = runs;
    } in
    inr some

pub opens_on : (files : RunFiles) (old : Option (List ℕ)) (v : Bounded) (o : TaskOutcome)
    (r : Ending) → IsReadFailure files.frames o ⊎ IsMakeFailure files.out o → r.outcome ≡ o
    → r.why ≡ None → RunsOn files v old old r
opens_on files old v o r failed same none =
    inl ((rw same (OpensNone-failed files old old o refl failed)), none)

-- ---- texts

-- the text could not be read
pub text_unread : (text image : List ℕ) (old new : Option (List ℕ)) (o : TaskOutcome) (r : Ending)
    → new ≡ old → IsReadFailure text o → r.outcome ≡ o → r.why ≡ None
    → AssemblesFile text image old new r
text_unread text image old new o r e failed same none = inl ((rw same failed, e), none)

-- a text was read, and it is refused
pub text_refused : (text image : List ℕ) (source : KeptText) (old new : Option (List ℕ))
    (r : Ending) → RefusesTextFile source text old new r → AssemblesFile text image old new r
text_refused text image source old new r h = inr (source, inl h)

-- a text was read, and its image is written, or its file could not be made
pub text_stored : (text image : List ℕ) (source : KeptText) (p : Program)
    (old mid new : Option (List ℕ)) (o : TaskOutcome) (r : Ending) → mid ≡ old
    → spelled source ≡ Ok p
    → (MakesNone image mid new o ⊎ StoresSome p image mid new o) → r.outcome ≡ o → r.why ≡ None
    → AssemblesFile text image old new r
text_stored text image source p old mid new o r e found h same none =
    let at_old : MakesNone image old new o ⊎ StoresSome p image old new o =
    subst (λ (m : Option (List ℕ)). MakesNone image m new o ⊎ StoresSome p image m new o) e h in
    inr (source, inr (rw same (p, found, at_old), none))
