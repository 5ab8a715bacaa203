use Rattle.std.proofs.Common.{sym, ◌∙◌}
use Rattle.branch_refine.proofs.RefiningLaws.{Refines-pointers}
use Rattle.branch_refine.specs.Leaving.{goes, left_in}
use Rattle.branch_refine.proofs.outcome_of.Goals as goal

pub returns-in_default : goal.returns-in_default
returns-in_default c = record {
  refines =
      Refines-pointers c.args.cond c.args.taken c.args.state.now (goes c.pointers_outcome.result)
      (left_in c.args.cond c.args.state.now c.pointers_outcome.result)
      (λ numbers. c.in_default.not-Numbers (c.compared_by.ensures ∙ numbers))
      (rw (sym c.compared_by.ensures)
      (c.pointers_outcome.ensures.leaves c.args.state.now c.args.cond));
  put = c.pointers_outcome.ensures.put c.args.cond;
}
