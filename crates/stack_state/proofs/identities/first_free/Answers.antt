use Rattle.std.proofs.Common.{arith, rules}
use Rattle.stack_state.proofs.MarksLaws.{marked-room}
use Rattle.stack_state.proofs.identities.first_free.Goals as goal

pub unreachable-requires : goal.unreachable-requires
unreachable-requires c =
    marked-room c.args.named.now (omega arith)
    (λ i above inside. c.loop-identity.invariant i above (omega arith))

pub returns-then-not-named-identity-clause-free : goal.returns-then-not-named-identity-clause-free
returns-then-not-named-identity-clause-free c = search rules
