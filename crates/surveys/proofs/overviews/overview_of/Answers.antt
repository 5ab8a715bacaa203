use Rattle.stack_state.specs.Starts.{start}
use Rattle.surveys.proofs.overviews.overview_of.Goals as goal

pub verify_with-requires : goal.verify_with-requires
verify_with-requires c = record { untold = λ how. (start, tt) }
