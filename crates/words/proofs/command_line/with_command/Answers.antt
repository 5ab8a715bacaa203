use Rattle.words.proofs.Common.{map, refl, IfOk-weaker, new_app}
use Rattle.words.specs.declared.command_line.Argument.{Argument}
use Rattle.words.proofs.Words.{command-more, is_plain-wanted}
use Rattle.words.proofs.command_line.with_command.Goals as goal

pub returns : goal.returns
returns c =
    rw c.in_ok-before.was
    (IfOk-weaker c.subcommand.result _ _
    (λ made h. command-more _ _ made _ _ h refl c.in_ok-made.ensures
    (is_plain-wanted (new_app c.args.name.now)
    (map (λ (x : Argument). x.name.now) c.args.arguments.now))) c.subcommand.ensures)
