use Rattle.std.proofs.Common.{arith}
use Rattle.stack_state.proofs.StackLaws.{are_bytes}
use Rattle.stack_state.proofs.stacks.StackState.is_bytes.Goals as goal

pub returns-clause-meant : goal.returns-clause-meant
returns-clause-meant c =
    λ yes. are_bytes c.args.self.now.slots c.args.from c.args.count c.requires
    (λ i from to. c.loop-at.invariant.marked i from (omega arith))
