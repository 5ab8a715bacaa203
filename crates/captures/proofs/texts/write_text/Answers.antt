use Rattle.std.proofs.Common.{◌∙◌}
use Rattle.captures.proofs.TextsLaws.{both-written, first-fails, head_line-body, second-fails}
use Rattle.captures.proofs.texts.write_text.Goals as goal

pub returns-in_err-write_whole-clause-err : goal.returns-in_err-write_whole-clause-err
returns-in_err-write_whole-clause-err g c =
    first-fails c.from_residual.result _ _ _ _ _
    (c.spell_head-size.ensures.front
    ∙ head_line-body c.args.head.now c.args.body.now c.args.reason)
    c.in_err-write_whole.ensures.err

pub returns-clause-ok : goal.returns-clause-ok
returns-clause-ok g c =
    both-written c.write_rows.result _ _ _ _ _ _
    (c.spell_head-size.ensures.front
    ∙ head_line-body c.args.head.now c.args.body.now c.args.reason)
    c.in_ok-write_whole.ensures.ok c.write_rows.ensures.ok

pub returns-clause-err : goal.returns-clause-err
returns-clause-err g c =
    second-fails c.write_rows.result _ _ _ _ _ _
    (c.spell_head-size.ensures.front
    ∙ head_line-body c.args.head.now c.args.body.now c.args.reason)
    c.in_ok-write_whole.ensures.ok c.write_rows.ensures.err
