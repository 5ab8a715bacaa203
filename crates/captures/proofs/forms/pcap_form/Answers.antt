use Rattle.std.proofs.Common.{sym, ◌∙◌, ap, ◌%◌, ◌^◌}
use Rattle.captures.proofs.PcapLaws.{opened-short, opened-other, opened-unknown, opened-read}
use Rattle.captures.proofs.forms.pcap_form.Goals as goal

pub returns-then-head-lt24 : goal.returns-then-head-lt24
returns-then-head-lt24 c = sym (opened-short c.args.head.now c.if-head-lt24.true)

pub returns-in-Some-of : goal.returns-in-Some-of
returns-in-Some-of c =
    sym (opened-read c.args.head.now c.in-Some.order c.in-Some.unit c.in-Some-of.link _
    c.if-head-lt24.false (sym c.pcap_start.ensures ∙ c.in-Some.is)
    (ap (λ n. n % 2 ^ 16) c.number_at-number.ensures) (sym c.of.ensures ∙ c.in-Some-of.is))

pub returns-in-None-of : goal.returns-in-None-of
returns-in-None-of c =
    sym (opened-unknown c.args.head.now c.in-Some.order c.in-Some.unit _
    c.if-head-lt24.false (sym c.pcap_start.ensures ∙ c.in-Some.is)
    (ap (λ n. n % 2 ^ 16) c.number_at-number.ensures) (sym c.of.ensures ∙ c.in-None-of.is))

pub returns-in-None : goal.returns-in-None
returns-in-None c =
    sym (opened-other c.args.head.now c.if-head-lt24.false
    (sym c.pcap_start.ensures ∙ c.in-None.is))
