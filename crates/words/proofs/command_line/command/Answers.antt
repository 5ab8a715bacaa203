use Rattle.words.proofs.Common.{◌∙◌, ◌<◌, length, arith, sym, ap, ap₂, with_rule, app_of_fields}
use Rattle.words.specs.declared.command_line.Argument.{Argument}
use Rattle.words.proofs.Words.{wanted-more}
use Rattle.words.proofs.command_line.command.Goals as goal

pub loop-argument-init : goal.loop-argument-init
loop-argument-init c = ap app_of_fields c.about-command.ensures ∙ c.new.ensures.app

pub loop-argument-preserved : goal.loop-argument-preserved
loop-argument-preserved c =
    let lt : c.loop-argument.argument-index < length c.args.arguments.now = omega arith in
    c.in_ok-command.ensures.shape c.wanted.ensures.local
    ∙ (ap₂ with_rule c.loop-argument.invariant c.wanted.ensures.rule
    ∙ sym (wanted-more
    (λ (x : Argument). x.name.now) _ c.args.arguments.now c.loop-argument.argument-index _ lt))
