use Rattle.image.proofs.Programs.{IsProgram-IsImage}
use Rattle.rechecking.proofs.rechecks.bound_of.Goals as goal

pub quick_bound-requires : goal.quick_bound-requires
quick_bound-requires c = IsProgram-IsImage c.args.image.now c.recall.ensures

pub slow_bound-requires-clause-program : goal.slow_bound-requires-clause-program
slow_bound-requires-clause-program c = IsProgram-IsImage c.args.image.now c.recall.ensures
