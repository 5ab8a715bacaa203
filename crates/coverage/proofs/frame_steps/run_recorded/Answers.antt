use Rattle.std.proofs.Common.{◌≡◌, List, [], map, refl, sym, ap, ◌∙◌}
use Rattle.coverage.specs.declared.recording.StepTaken.{StepTaken}
use Rattle.coverage.specs.Steps.{view_in, view_of}
use Rattle.coverage.proofs.frame_steps.run_recorded.Goals as goal

pub returns-clause-shows : goal.returns-clause-shows
returns-clause-shows c =
    let seen = c.run_watched-stop.ensures.seen []
    (λ empty. ap (λ (l : List StepTaken). map view_of l) c.new-recorder.ensures) in
    record {
      states =
          ap (λ (l : List StepTaken). map view_of l) (ap (λ v. v.items) c.into_steps.ensures)
          ∙ seen c.if-recorder.false;
      stop = c.run_watched-stop.ensures.stop;
      len = refl;
    }
