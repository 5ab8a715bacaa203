-- What a task did is what its command does, by how far it came: with an image, with a table.
use Rattle.commands.proofs.Common.{◌≡◌, ℕ, List, Option, None, String, Result, Ok, Err, subst, sym, inl, inr, ◌⊎◌, ◌∙◌, IfOk, IfErr, ErrorKind, Program, FileForm, TaskOutcome, Done, WrongWords, Refused, Faulted, CannotRead, CannotWrite, CannotReplace, NoMemory, Ending, IsReadFailure, IsMakeFailure, Accepts, IsBoundOf, RefusesProgram, RefusesTable, Verifies, Plainly, IsKnownOfProgram, IsKnownOfTable, Tells, LoadsNone, RunsOn, RunFiles, TableFiles, Traces}
use Rattle.std.specs.declared.alloc.Global.{Global}
use Rattle.bounds.specs.Bounds.{Bounded, IsVerified}
use Rattle.commands.specs.Commands.{ShowsNone, TracesFile, TracesSome, IsShown, VerifiesFile, RechecksFile, RunsFile, RunsShown}
use Rattle.image.specs.Images.{IsImage}
use Rattle.rechecking.specs.Refusing.{ShowsBound}
use Rattle.stack_state.specs.Starts.{start}
use Rattle.walks.specs.Accepting.{BoundsAll}
use Rattle.walks.specs.Counts.{HasNumber}
use Rattle.frames.specs.Sources.{Origin}
use Rattle.messages.specs.declared.rejections.Rejection.TheVariants as rejection
use Rattle.commands.proofs.FilesLaws.{OpensNone-failed}

-- a message without lines at its end says nothing of a program
pub tells-none : (p : Program) (o : TaskOutcome) (why : Option (String Global)) → why ≡ None
    → Tells p o why
tells-none p Done why e = e
tells-none p (WrongWords message) why e = e
tells-none p (Refused (rejection.Image error form)) why e = e
tells-none p (Refused (rejection.Program refusal slot insn)) why e = rw e tt
tells-none p (Refused (rejection.Table error position)) why e = e
tells-none p (Refused rejection.Explored) why e = e
tells-none p (Refused (rejection.Text error)) why e = e
tells-none p (Refused (rejection.Maps error)) why e = e
tells-none p (Faulted fault form) why e = e
tells-none p (CannotRead path kind) why e = e
tells-none p (CannotWrite path cause) why e = e
tells-none p (CannotReplace path conflict) why e = e
tells-none p NoMemory why e = e

-- the image was not loaded
pub unloaded : (path : List ℕ) (old new : Option (List ℕ)) (o : TaskOutcome) (r : Ending)
    → LoadsNone path old new o → r.outcome ≡ o → r.why ≡ None → Plainly (LoadsNone path old new) r
unloaded path old new o r h same none = (subst (LoadsNone path old new) (sym same) h, none)

pub verify_unloaded : (path : List ℕ) (old new : Option (List ℕ)) (o : TaskOutcome) (r : Ending)
    → LoadsNone path old new o → r.outcome ≡ o → r.why ≡ None → VerifiesFile path old new r
verify_unloaded path old new o r h same none = inl (unloaded path old new o r h same none)

pub run_unloaded : (files : RunFiles) (old new : Option (List ℕ)) (o : TaskOutcome) (r : Ending)
    → LoadsNone files.image old new o → r.outcome ≡ o → r.why ≡ None → RunsFile files old new r
run_unloaded files old new o r h same none = inl (unloaded files.image old new o r h same none)

pub image_verified : (path : List ℕ) (old mid new : Option (List ℕ)) (p : Program) (r : Ending)
    → mid ≡ old → IsImage p → Verifies p mid new r.outcome → IsKnownOfProgram p r
    → VerifiesFile path old new r
image_verified path old mid new p r e h v known =
    inr (p, h, (subst (λ (o : Option (List ℕ)). Verifies p o new r.outcome) e v, known))

-- ---- `trace`

pub trace_unloaded : (files : RunFiles) (limit : ℕ) (old new : Option (List ℕ)) (o : TaskOutcome)
    (r : Ending) → LoadsNone files.image old new o → r.outcome ≡ o → r.why ≡ None
    → TracesFile files limit old new r
trace_unloaded files limit old new o r h same none =
    inl (unloaded files.image old new o r h same none)

pub trace_unopened : (files : RunFiles) (limit : ℕ) (old new : Option (List ℕ)) (p : Program)
    (o : TaskOutcome) (r : Ending) → new ≡ old → IsImage p
    → IsReadFailure files.frames o ⊎ IsMakeFailure files.out o
    → r.outcome ≡ o → r.why ≡ None → TracesFile files limit old new r
trace_unopened files limit old new p o r e h failed same none =
    inr (p, h, inl ((rw same (OpensNone-failed files old new o e failed)), none))

-- in the outputs, `sent` is the frames out, whose file is `files.out`; `files.frames` is read
pub image_traced : (files : RunFiles) (limit : ℕ)
    (old mid new before after : Option (List ℕ)) (source : Origin) (form : FileForm)
    (cause : Option ErrorKind)
    (p : Program) (r : Ending) → mid ≡ old → IsImage p
    → Traces p limit source form files.out cause (record { report = mid; sent = before })
    (record { report = new; sent = after }) r → TracesFile files limit old new r
image_traced files limit old mid new before after source form cause p r e h traces =
    let some : TracesSome p limit files.out old new r = record {
      source = source;
      form = form;
      before = before;
      after = after;
      cause = cause;
      traces =
          subst (λ (x : Option (List ℕ)). Traces p limit source form files.out cause
          (record { report = x; sent = before }) (record { report = new; sent = after }) r) e
          traces;
    } in
    inr (p, h, inr some)

-- ---- `run`

-- the clauses of the verifier, of the program that it returns
pub bound_of_verified : (p : Program) (v : Bounded) → v.program ≡ p → IsVerified v
    → HasNumber p start v.bound → BoundsAll p v.bound → IsBoundOf v.program v.bound
bound_of_verified p v same h number bounds =
    record { verified = h; number = rw same number; bounds = rw same bounds }

pub image_refused : (files : RunFiles) (old mid new : Option (List ℕ)) (p : Program) (r : Ending)
    → mid ≡ old → IsImage p → RefusesProgram p mid new r.outcome → IsKnownOfProgram p r
    → RunsFile files old new r
image_refused files old mid new p r e h v known =
    inr (p, h, inl (subst (λ (o : Option (List ℕ)). RefusesProgram p o new r.outcome) e v, known))

-- nothing was written before
runs-first : (files : RunFiles) (old mid new : Option (List ℕ)) (v : Bounded) (r : Ending)
    → mid ≡ old → RunsOn files v mid new r → RunsOn files v old new r
runs-first files old mid new v r e runs =
    subst (λ (x : Option (List ℕ)). RunsOn files v x new r) e runs

pub image_run : (files : RunFiles) (old mid now new : Option (List ℕ)) (v : Bounded) (r : Ending)
    → mid ≡ old → now ≡ mid → IsBoundOf v.program v.bound → RunsOn files v now new r
    → RunsFile files old new r
image_run files old mid now new v r e f h runs =
    inr (
      v.program,
      h.verified.image,
      inr (v.bound, h, runs-first files old now new v r (f ∙ e) runs),
    )

-- ---- tables

-- a table shows the bound of the program that is returned
shown_of : (p : Program) (bytes : List ℕ) (v : Bounded) → v.program ≡ p → IsVerified v
    → ShowsBound p bytes v.bound → IsShown v
shown_of p bytes v same h shows = (bytes, record { verified = h; shows = rw same shows })

pub shows_unloaded : (files : TableFiles) (old new : Option (List ℕ)) (o : TaskOutcome) (r : Ending)
    → LoadsNone files.image old new o → r.outcome ≡ o → r.why ≡ None → ShowsNone files old new r
shows_unloaded files old new o r h same none = inl (unloaded files.image old new o r h same none)

shows_refused : (files : TableFiles) (old mid new : Option (List ℕ)) (p : Program) (bytes : List ℕ)
    (r : Ending) → mid ≡ old → IsImage p → RefusesTable p bytes mid new r.outcome
    → IsKnownOfTable p bytes r → ShowsNone files old new r
shows_refused files old mid new p bytes r e h refused known =
    inr (
      p,
      h,
      inr (
        bytes,
        subst
            (λ (o : Option (List ℕ)). RefusesTable p bytes o new r.outcome) e refused,
        known,
      ),
    )

-- the same for a result
pub shown_if : (p : Program) (bytes : List ℕ) (r : Result Bounded Ending)
    → IfOk r (λ v. v.program ≡ p) → IfOk r IsVerified → IfOk r (λ v. ShowsBound p bytes v.bound)
    → IfOk r IsShown
shown_if p bytes (Ok v) same h shows = shown_of p bytes v same h shows
shown_if p bytes (Err ending) same h shows = tt

pub refused_if : (files : TableFiles) (old mid new : Option (List ℕ)) (p : Program) (bytes : List ℕ)
    (r : Result Bounded Ending) → mid ≡ old → IsImage p
    → IfErr r (λ e. RefusesTable p bytes mid new e.outcome)
    → IfErr r (λ e. IsKnownOfTable p bytes e) → IfErr r (λ e. ShowsNone files old new e)
refused_if files old mid new p bytes (Ok v) e h refused known = tt
refused_if files old mid new p bytes (Err ending) e h refused known =
    shows_refused files old mid new p bytes ending e h refused known

pub bound_said : (files : TableFiles) (old mid new : Option (List ℕ)) (v : Bounded)
    (o : TaskOutcome) (r : Ending) → mid ≡ old → IsShown v → Accepts v mid new o → r.outcome ≡ o
    → r.why ≡ None → RechecksFile files old new r
bound_said files old mid new v o r e is accepts same none =
    inr (v, is, (rw same (subst (λ (x : Option (List ℕ)). Accepts v x new o) e accepts), none))

pub shown_run : (files : RunFiles) (table : List ℕ) (old mid new : Option (List ℕ)) (v : Bounded)
    (r : Ending) → mid ≡ old → IsShown v → RunsOn files v mid new r
    → RunsShown files table old new r
shown_run files table old mid new v r e is runs =
    inr (v, is, runs-first files old mid new v r e runs)
