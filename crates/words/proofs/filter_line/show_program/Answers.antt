use Rattle.words.proofs.Common.{◌∙◌, ap, IfOk-weaker, app_of_fields, show_program}
use Rattle.words.proofs.filter_line.show_program.Goals as goal

pub returns : goal.returns
unfolding show_program
returns c =
    IfOk-weaker c.bin_name.result _ _
    (λ made h. ap app_of_fields h.0 ∙ c.in_ok-command.ensures) c.bin_name.ensures
