use Rattle.std.proofs.Common.{sym, ◌∙◌}
use Rattle.table_entries.proofs.BlankStackSlots.{AreZeros-eight}
use Rattle.table_entries.proofs.blanks.begins_with_four.Goals as goal

pub returns : goal.returns
returns c =
    λ yes. AreZeros-eight c.args.bytes.now c.if-bytes-lt8.false
    (sym c.u64_at.ensures ∙ c.if-u64_at-ne0.false)
