use Rattle.words.proofs.Common.{◌∙◌, ap, codes, IfOk-weaker, App, with_rule, filter_program, flag, with_option}
use Rattle.words.proofs.filter_line.filter_program.Goals as goal

pub returns : goal.returns
unfolding filter_program
returns c =
    let maps = c.in_ok-with_maps.ensures ∙ ap (with_option (codes "maps")) c.in_ok-start.ensures in
    let maps_out =
    c.in_ok-with_maps_out.ensures ∙ ap (with_option (codes "maps-out")) maps in
    let table = c.in_ok-with_table.ensures ∙ ap (with_option (codes "table")) maps_out in
    let checked =
    c.in_ok-with_checked.ensures
    ∙ ap (λ (a : App). with_rule a (flag (codes "checked"))) table in
    let limit = c.in_ok-with_limit.ensures ∙ ap (with_option (codes "limit")) checked in
    IfOk-weaker c.with_choice-5.result _ _
    (λ made h. h ∙ ap (with_option (codes "report")) limit) c.with_choice-5.ensures
