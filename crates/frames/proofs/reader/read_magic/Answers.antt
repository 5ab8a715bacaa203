use Rattle.std.proofs.Common.{sym, ◌∙◌}
use Rattle.frames.proofs.Findings.{magic_failed, magic_ended, magic_wrong, may_be_short, may_be_unread}
use Rattle.frames.proofs.reader.read_magic.Goals as goal

pub returns-in-Failed-clause-bytes : goal.returns-in-Failed-clause-bytes
returns-in-Failed-clause-bytes g c =
    magic_failed _ _ _ _ c.fill.auto.buffer c.in-Failed.ensures.fills.0 c.in-Failed.ensures.fills.1

pub returns-in-Ended-clause-bytes : goal.returns-in-Ended-clause-bytes
returns-in-Ended-clause-bytes g c =
    magic_ended _ _ _ _ c.fill.auto.buffer c.in-Ended.ensures.fills.0 c.in-Ended.ensures.fills.1
    c.in-Ended.ensures.fills.2

pub returns-in-Failed-clause-room : goal.returns-in-Failed-clause-room
returns-in-Failed-clause-room g c = may_be_unread _ (c.in-Failed.ensures.fails tt)

pub returns-in-Ended-clause-room : goal.returns-in-Ended-clause-room
returns-in-Ended-clause-room g c = may_be_short _

pub returns-else-eq-2-clause-bytes : goal.returns-else-eq-2-clause-bytes
returns-else-eq-2-clause-bytes g c =
    magic_wrong _ _ _ c.fill.auto.buffer (sym c.eq.ensures ∙ c.if-eq.false)
    (sym c.eq-else-eq.ensures ∙ c.if-eq-2.false) c.in-Whole.ensures.fills

pub returns-else-eq-2-clause-room : goal.returns-else-eq-2-clause-room
returns-else-eq-2-clause-room g c = may_be_short _
