use Rattle.std.proofs.Common.{arith, refl}
use Rattle.stack_state.proofs.Common.{get_or-replicate, Written, frame_slots}
use Rattle.stack_state.proofs.StackLaws.{StackMeans-new}
use Rattle.stack_state.proofs.stacks.StackState.new.Goals as goal

pub invariant_of-result : goal.invariant_of-result
invariant_of-result c =
    record {
      inside = omega arith;
      blank = λ k below. get_or-replicate frame_slots k (Written 0) (Written 0) below;
      wide = refl;
    }

pub returns-clause-meant : goal.returns-clause-meant
returns-clause-meant c = StackMeans-new
