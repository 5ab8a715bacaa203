use Rattle.explanations.proofs.Common.{◌∙◌, codes, refl, decimal, depth}
use Rattle.explanations.proofs.EntryLaws.{differs_by}
use Rattle.explanations.proofs.differences.frames_mismatch_lines.Goals as goal

pub returns : goal.returns
returns c =
    differs_by c.difference_lines.result c.args.nth c.args.index _ _ _
    (codes "has another number of frames") (decimal (depth c.args.state.now))
    (decimal (depth c.args.entry.now))
    refl (c.as_str.ensures.value ∙ c.in_ok-here.ensures)
    (c.as_str-2.ensures.value ∙ c.in_ok-there.ensures) c.difference_lines.ensures
