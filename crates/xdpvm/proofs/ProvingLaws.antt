-- What `prove` did is what the command does, by how far it came.
use Rattle.xdpvm.proofs.Common.{◌≡◌, ℕ, List, Option, None, subst, inl, inr, ◌∙◌, Program, Bounded, TaskOutcome, Ending, IsMakeFailure, IsBoundOf, RefusesProgram, IsKnownOfProgram, LoadsNone, TableFiles, StoresTable, ProvesTold, ProvesSome}
use Rattle.messages.specs.Lines.{bound_line}
use Rattle.commands.proofs.Loading.{tells-none, unloaded}
use Rattle.image.specs.Images.{IsImage}

pub prove_unloaded : (files : TableFiles) (old new told_old told_new : Option (List ℕ))
    (o : TaskOutcome) (r : Ending) → LoadsNone files.image old new o → told_new ≡ told_old
    → r.outcome ≡ o → r.why ≡ None → ProvesTold files old new told_old told_new r
prove_unloaded files old new told_old told_new o r h untold same none =
    inl (unloaded files.image old new o r h same none, untold)

pub prove_refused : (files : TableFiles) (old mid new told_old told_new : Option (List ℕ))
    (p : Program) (r : Ending) → mid ≡ old → IsImage p → RefusesProgram p mid new r.outcome
    → IsKnownOfProgram p r → told_new ≡ told_old → ProvesTold files old new told_old told_new r
prove_refused files old mid new told_old told_new p r e h v known untold =
    inr (
      p,
      h,
      (
        inl (
          subst (λ (o : Option (List ℕ)). RefusesProgram p o new r.outcome) e v,
          untold,
        ),
        known,
      ),
    )

pub prove_unmade : (files : TableFiles) (old mid new told_old told_new : Option (List ℕ))
    (v : Bounded) (o : TaskOutcome) (r : Ending) → mid ≡ old → new ≡ mid
    → IsBoundOf v.program v.bound → IsMakeFailure files.table o → told_new ≡ told_old
    → r.outcome ≡ o → r.why ≡ None → ProvesTold files old new told_old told_new r
prove_unmade files old mid new told_old told_new v o r e f h failed untold same none =
    inr (
      v.program,
      h.verified.image,
      (
        inr (v.bound, h, inl ((rw same failed, f ∙ e), untold)),
        tells-none v.program r.outcome r.why none,
      ),
    )

pub table_stored : (files : TableFiles)
    (old mid now new before after told_old told_new : Option (List ℕ)) (v : Bounded)
    (line : List ℕ) (o : TaskOutcome) (r : Ending) → mid ≡ old → now ≡ mid
    → IsBoundOf v.program v.bound → line ≡ bound_line v.bound
    → StoresTable v.program line files.table before after now new told_old told_new o
    → r.outcome ≡ o → r.why ≡ None → ProvesTold files old new told_old told_new r
table_stored files old mid now new before after told_old told_new v line o r e f h is stores same
    none =
    let some : ProvesSome v.program v.bound files.table old new told_old told_new r.outcome =
    record {
      before = before;
      after = after;
      stores =
          rw same (subst
          (λ (x : Option (List ℕ)). StoresTable v.program
          (bound_line v.bound) files.table before after x new told_old told_new o) (f ∙ e)
          (subst
          (λ (l : List ℕ). StoresTable v.program l files.table before after now new told_old
          told_new o) is stores));
    } in
    inr (
      v.program,
      h.verified.image,
      (inr (v.bound, h, inr some), tells-none v.program r.outcome r.why none),
    )
