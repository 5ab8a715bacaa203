use Rattle.explanations.proofs.Common.{◌∙◌, ◌++◌, ℕ, List, codes, ap, returns_words, up_words}
use Rattle.explanations.proofs.EntryLaws.{differs_by}
use Rattle.explanations.proofs.differences.returns_mismatch_lines.Goals as goal

pub returns : goal.returns
returns c =
    differs_by c.difference_lines.result c.args.nth c.args.index _ _ _
    (codes "returns to another slot" ++ up_words c.args.state.now c.args.frame)
    (returns_words c.args.state.now c.args.frame) (returns_words c.args.entry.now c.args.frame)
    (c.as_str.ensures.value
    ∙ (c.in_ok-what.ensures.ok
    ∙ ap (λ (l : List ℕ). codes "returns to another slot" ++ l) c.in_ok-up.ensures))
    (c.as_str-2.ensures.value ∙ c.in_ok-here.ensures)
    (c.as_str-3.ensures.value ∙ c.in_ok-there.ensures) c.difference_lines.ensures
