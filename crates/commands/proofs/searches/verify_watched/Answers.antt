use Rattle.stack_state.specs.Starts.{start}
use Rattle.commands.proofs.searches.verify_watched.Goals as goal

pub verify_followed-requires : goal.verify_followed-requires
verify_followed-requires g c = record { untold = λ how. (start, tt) }
