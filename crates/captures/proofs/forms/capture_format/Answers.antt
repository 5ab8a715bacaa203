use Rattle.captures.proofs.Common.{sym, ap, ◌∙◌, begun_by}
use Rattle.captures.proofs.CapturedLaws.{begun-short, begun-section, begun-other}
use Rattle.captures.proofs.forms.capture_format.Goals as goal

pub returns-then-head-lt24 : goal.returns-then-head-lt24
returns-then-head-lt24 c = sym (begun-short c.args.reasons c.args.head.now c.if-head-lt24.true)

pub returns-then-is_section : goal.returns-then-is_section
returns-then-is_section c =
    sym (begun-section c.args.reasons c.args.head.now c.if-head-lt24.false
    (sym c.is_section.ensures ∙ c.if-is_section.true))

pub returns-in-Ok : goal.returns-in-Ok
returns-in-Ok c =
    sym (begun-other c.args.reasons c.args.head.now c.if-head-lt24.false
    (sym c.is_section.ensures ∙ c.if-is_section.false)
    ∙ ap begun_by (sym c.pcap_form.ensures ∙ c.in-Ok.is))

pub returns-in-Err : goal.returns-in-Err
returns-in-Err c =
    sym (begun-other c.args.reasons c.args.head.now c.if-head-lt24.false
    (sym c.is_section.ensures ∙ c.if-is_section.false)
    ∙ ap begun_by (sym c.pcap_form.ensures ∙ c.in-Err.is))
