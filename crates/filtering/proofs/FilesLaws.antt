-- What a run on files did, by how far it came.
use Rattle.filtering.proofs.Common.{◌≡◌, ◌∙◌, ℕ, List, Option, None, Result, Ok, Err, refl, subst, sym, inl, inr, Program, KeyValues, Origin, FileForm, TaskOutcome, FilterRequest, Verified, Shown, Checked, EndsRun, FiltersBy, FiltersOn, FiltersSome}
use Rattle.image.specs.Images.{IsImage}
use Rattle.bounds.specs.Bounds.{Bounded}
use Rattle.host.specs.declared.traced.Counted.{Counted}
use Rattle.commands.specs.declared.endings.Ending.{Ending}
use Rattle.commands.specs.Files.{LoadsNone}
use Rattle.commands.specs.Known.{Plainly, IsKnownOfProgram}
use Rattle.words.specs.declared.tasks.StepLimit.{StepLimit}
use Rattle.commands.specs.Commands.{IsShown}
use Rattle.commands.specs.Judging.{IsBoundOf, RefusesProgram}
use Rattle.filtering.specs.declared.ready.Ready.{Ready}
use Rattle.filtering.specs.declared.ready.Ready.TheVariants.{Bounded as Bound, Tested}
use Rattle.filtering.specs.Filling.{BeginsNot, BeginsWith}
use Rattle.filtering.specs.Finishing.{WritesEnd, WithUnsaid}
use Rattle.filtering.specs.Opening.{IsOpenFailure, output_name}
use Rattle.filtering.specs.Running.{program_of}

-- the outcome that the ending has, with nothing more
plainly : (P : TaskOutcome → Type 0) (o : TaskOutcome) (r : Ending) → P o → r.outcome ≡ o
    → r.why ≡ None → Plainly P r
plainly P o r h same none = (subst P (sym same) h, none)

-- the image could not be loaded
pub verified_unloaded : (request : FilterRequest) (old new : Option (List ℕ)) (o : TaskOutcome)
    (r : Ending) → LoadsNone request.files.image old new o → r.outcome ≡ o → r.why ≡ None
    → FiltersBy Verified request old new r
verified_unloaded request old new o r h same none =
    inl (plainly (LoadsNone request.files.image old new) o r h same none)

pub checked_unloaded : (request : FilterRequest) (steps : ℕ) (old new : Option (List ℕ))
    (o : TaskOutcome) (r : Ending) → LoadsNone request.files.image old new o → r.outcome ≡ o
    → r.why ≡ None → FiltersBy (Checked steps) request old new r
checked_unloaded request steps old new o r h same none =
    inl (plainly (LoadsNone request.files.image old new) o r h same none)

-- the program is refused
pub verified_refused : (request : FilterRequest) (p : Program) (old mid new : Option (List ℕ))
    (r : Ending) → mid ≡ old → IsImage p → RefusesProgram p mid new r.outcome
    → IsKnownOfProgram p r → FiltersBy Verified request old new r
verified_refused request p old mid new r e fits h known =
    inr (inl (
      p,
      fits,
      (subst (λ (x : Option (List ℕ)). RefusesProgram p x new r.outcome) e h, known),
    ))

-- the program is accepted and run
pub verified_run : (request : FilterRequest) (p : Program) (v : Bounded)
    (old mid more new : Option (List ℕ)) (r : Ending) → mid ≡ old → more ≡ mid
    → IsImage p → v.program ≡ p → IsBoundOf v.program v.bound
    → WithUnsaid (FiltersOn (Bound v) request more new) r
    → FiltersBy Verified request old new r
verified_run request p v old mid more new r e f fits is bound h =
    let here : FiltersOn (Bound v) request old new r.outcome =
    subst (λ (x : Option (List ℕ)). FiltersOn (Bound v) request x new r.outcome) (f ∙ e) h.0 in
    inr (inr (v.program, subst IsImage (sym is) fits, (v.bound, bound, (here, h.1))))

-- a table shows the bound
pub shown_run : (request : FilterRequest) (table : List ℕ) (v : Bounded)
    (old mid new : Option (List ℕ)) (r : Ending) → mid ≡ old → IsShown v
    → WithUnsaid (FiltersOn (Bound v) request mid new) r
    → FiltersBy (Shown table) request old new r
shown_run request table v old mid new r e shown h =
    let here : FiltersOn (Bound v) request old new r.outcome =
    subst (λ (x : Option (List ℕ)). FiltersOn (Bound v) request x new r.outcome) e h.0 in
    inr (v, shown, (here, h.1))

-- every access is tested while the program runs
pub checked_run : (request : FilterRequest) (p : Program) (limit : StepLimit)
    (old mid new : Option (List ℕ)) (r : Ending) → mid ≡ old → IsImage p
    → WithUnsaid (FiltersOn (Tested p limit) request mid new) r
    → FiltersBy (Checked limit.steps) request old new r
checked_run request p limit old mid new r e fits h =
    let here : FiltersOn (Tested p limit) request old new r.outcome =
    subst (λ (x : Option (List ℕ)). FiltersOn (Tested p limit) request x new r.outcome) e h.0 in
    inr (p, fits, (limit, refl, (here, h.1)))

-- ---- a program that is ready

pub filters_unbegun : (ready : Ready) (request : FilterRequest) (p : Program)
    (old new : Option (List ℕ)) (o : TaskOutcome) → p ≡ program_of ready
    → BeginsNot p request.maps old new o → FiltersOn ready request old new o
filters_unbegun ready request p old new o is h =
    inl (subst (λ (x : Program). BeginsNot x request.maps old new o) is h)

pub filters_unopened : (ready : Ready) (request : FilterRequest) (p : Program)
    (contents : List KeyValues) (old new : Option (List ℕ)) (o : TaskOutcome)
    → p ≡ program_of ready → BeginsWith p request.maps contents → new ≡ old
    → IsOpenFailure request o → FiltersOn ready request old new o
filters_unopened ready request p contents old new o is begins e failed =
    inr (
      contents,
      subst (λ (x : Program). BeginsWith x request.maps contents) is begins,
      inl (failed, e),
    )

pub filters_opened : (ready : Ready) (request : FilterRequest) (p : Program)
    (contents : List KeyValues) (source : Origin) (form : FileForm)
    (report maps_out : Option (List ℕ)) (sent : List ℕ) (old mid new : Option (List ℕ))
    (o : TaskOutcome) → p ≡ program_of ready → BeginsWith p request.maps contents → mid ≡ old
    → report ≡ request.report → maps_out ≡ request.maps_out
    → sent ≡ output_name request.files.out
    → FiltersSome ready contents source form report sent maps_out mid new o
    → FiltersOn ready request old new o
filters_opened ready request p contents source form report maps_out sent old mid new o is begins e
    f g h some =
    inr (
      contents,
      subst (λ (x : Program). BeginsWith x request.maps contents) is begins,
      inr (
        source,
        form,
        subst (λ (x : Option (List ℕ)). FiltersSome ready contents source form request.report
            (output_name request.files.out) request.maps_out x new o) e
            (subst (λ (x : List ℕ). FiltersSome ready contents source form request.report x
            request.maps_out mid new o) h
            (subst (λ (x : Option (List ℕ)).
            FiltersSome ready contents source form request.report sent x mid new o) g
            (subst (λ (x : Option (List ℕ)).
            FiltersSome ready contents source form x sent maps_out mid new o) f some))),
      ),
    )

pub ends-finished : (ended : Result Counted TaskOutcome) (counted : Counted) (form : FileForm)
    (maps_out old new : Option (List ℕ)) (o : TaskOutcome) → ended ≡ Ok counted
    → WritesEnd counted form maps_out old new o → EndsRun ended form maps_out old new o
ends-finished ended counted form maps_out old new o is h = rw is h

pub ends-failed : {ended : Result Counted TaskOutcome} {o : TaskOutcome} (form : FileForm)
    (maps_out old new : Option (List ℕ)) → ended ≡ Err o → new ≡ old
    → EndsRun ended form maps_out old new o
ends-failed form maps_out old new is e = rw is (refl, e)
