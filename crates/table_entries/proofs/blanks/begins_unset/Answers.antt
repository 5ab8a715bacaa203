use Rattle.std.proofs.Common.{sym, ◌∙◌}
use Rattle.table_entries.proofs.BlankStackSlots.{AreZeros-six}
use Rattle.table_entries.proofs.blanks.begins_unset.Goals as goal

pub returns : goal.returns
returns c =
    λ yes. AreZeros-six c.args.bytes.now c.if-bytes-lt8.false
    (sym c.u32_at.ensures ∙ c.if-u32_at-ne0.false)
    (sym c.u16_at.ensures ∙ c.if-u16_at-ne0.false)
