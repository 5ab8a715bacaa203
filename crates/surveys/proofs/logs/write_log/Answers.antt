use Rattle.stack_state.specs.Starts.{start}
use Rattle.surveys.proofs.logs.write_log.Goals as goal

pub verify_with-requires : goal.verify_with-requires
verify_with-requires g c = record { untold = λ how. (start, tt) }
