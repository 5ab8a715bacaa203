use Rattle.std.proofs.Common.{arith, ◌∙◌, sym}
use Rattle.stack_state.proofs.MarksLaws.{Marks-named}
use Rattle.stack_state.proofs.identities.mark.Goals as goal

pub returns-then-identity-lt594 : goal.returns-then-identity-lt594
returns-then-identity-lt594 c =
    Marks-named c.args.sort c.args.kind c.in-Some.identity c.args.named.now
    (sym c.named_by.ensures ∙ c.in-Some.is) (omega arith)
