use Rattle.explanations.proofs.Common.{◌∙◌, stack_difference, stack_words}
use Rattle.explanations.proofs.EntryLaws.{differs_by}
use Rattle.explanations.proofs.differences.stack_mismatch_lines.Goals as goal

pub returns : goal.returns
returns c =
    differs_by c.difference_lines.result c.args.nth c.args.index _ _ _
    (stack_difference c.args.state.now c.args.frame c.args.slot)
    (stack_words c.args.state.now c.args.frame c.args.slot)
    (stack_words c.args.entry.now c.args.frame c.args.slot)
    (c.as_str.ensures.value ∙ c.in_ok-what.ensures)
    (c.as_str-2.ensures.value ∙ c.in_ok-here.ensures)
    (c.as_str-3.ensures.value ∙ c.in_ok-there.ensures) c.difference_lines.ensures
