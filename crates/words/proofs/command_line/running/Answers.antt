use Rattle.words.proofs.Common.{◌∙◌, ap, IfOk-weaker, App, with_rule, optional}
use Rattle.words.proofs.command_line.running.Goals as goal

pub returns : goal.returns
returns c =
    IfOk-weaker c.with_choice.result _ _
    (λ made h. h
    ∙ ap (λ (a : App). with_rule a (optional c.args.choice.name.now)) c.in_ok-plain.ensures)
    c.with_choice.ensures
