use Rattle.words.proofs.Common.{refl, IfOk-weaker}
use Rattle.words.proofs.Words.{command-more}
use Rattle.words.proofs.command_line.with_running.Goals as goal

pub returns : goal.returns
returns c =
    rw c.in_ok-before.was
    (IfOk-weaker c.subcommand.result _ _
    (λ made h. command-more _ _ made _ _ h refl c.in_ok-made.ensures refl) c.subcommand.ensures)
