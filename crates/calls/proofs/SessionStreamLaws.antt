-- A run over a stream in memory on an open machine.
use Rattle.calls.proofs.Common.{◌≡◌, [], ℕ, List, Some, Ok, inl, inr, subst, Running}
use Rattle.isa_model.specs.Machine.States.{KeyValues}
use Rattle.frames.specs.Sources.{in_memory}
use Rattle.frames.proofs.InputsLaws.{AreReadFrom-in_memory}
use Rattle.host.specs.declared.tallies.Tally.{Tally}
use Rattle.host.specs.Accepted.{RunsWholeFrom, ShowsTallied}
use Rattle.host.specs.OnMachines.{Leaves, ReportsOn, bounded_of}
use Rattle.host.specs.Writing.{Outputs}
use Rattle.calls.proofs.StreamLaws.{read_well}
use Rattle.calls.specs.SessionStreams.{StreamsMachine}

module _ (before after : Running) (program : after.program ≡ before.program)
    (bound : after.bound ≡ before.bound) where
  -- only the contents of its maps are others
  pub with_contents : (left : List KeyValues) → after.contents ≡ left
      → after ≡ record before { contents = left }
  with_contents left e =
      λ i. record { program = program i; bound = bound i; contents = e i }

  pub streams : (source old_report old_sent report sent : List ℕ) (tally : Tally)
      → old_report ≡ [] → old_sent ≡ []
      → ReportsOn before after.contents (in_memory source)
      (record { report = Some old_report; sent = Some old_sent })
      (record { report = Some report; sent = Some sent }) (Ok tally)
      → StreamsMachine source report sent tally before after
  streams source old_report old_sent report sent tally none nothing (runs, leaves) =
      let old : Outputs = record { report = Some old_report; sent = Some old_sent } in
      let new : Outputs = record { report = Some report; sent = Some sent } in
      let Whole : List ℕ → List ℕ → Type 0 =
      λ x y.
      (whole : RunsWholeFrom (bounded_of before) before.contents (in_memory source) ShowsTallied
      (record { report = Some x; sent = Some y }) new (Ok tally))
      × (after.contents ≡ whole.is_report.last) in
      let start : Whole old_report old_sent =
      elim runs.reports
      as (λ r. Leaves (bounded_of before) before.contents after.contents (in_memory source)
      ShowsTallied old new (Ok tally) r → Whole old_report old_sent) [
        | inl whole ↦ λ last. (whole, last)
        | inr failed ↦ λ last. absurd (cc failed.1)
      ] leaves in
      let (whole, last) =
      subst (λ (y : List ℕ). Whole [] y) nothing
      (subst (λ (x : List ℕ). Whole x old_sent) none start) in
      let all = AreReadFrom-in_memory source whole.found whole.read in
      record {
        writes = record {
          runs = whole;
          all = all;
          no_failure = read_well source whole.found tally all whole.tells;
        };
        machine = with_contents whole.is_report.last last;
      }
