use Rattle.words.proofs.Common.{◌∙◌, ap, codes, IfOk-weaker, app_of_fields, App, with_rule, convert_program, flag, with_option}
use Rattle.words.proofs.filter_line.convert_program.Goals as goal

pub returns : goal.returns
unfolding convert_program
returns c =
    let named = ap app_of_fields c.in_ok-named.ensures.0 ∙ c.in_ok-plain.ensures in
    let to = c.in_ok-with_to.ensures ∙ ap (with_option (codes "to")) named in
    let interface =
    c.in_ok-with_interface.ensures ∙ ap (with_option (codes "interface")) to in
    let queue = c.in_ok-with_queue.ensures ∙ ap (with_option (codes "queue")) interface in
    IfOk-weaker c.with_flag.result _ _
    (λ made h. h ∙ ap (λ (a : App). with_rule a (flag (codes "reasons"))) queue)
    c.with_flag.ensures
