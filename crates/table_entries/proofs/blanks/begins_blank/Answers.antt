use Rattle.std.proofs.Common.{sym, ◌∙◌}
use Rattle.table_entries.proofs.BlankStackSlots.{AreZeros-thirty_two}
use Rattle.table_entries.proofs.blanks.begins_blank.Goals as goal

pub returns : goal.returns
returns c = λ yes.
    AreZeros-thirty_two c.args.bytes.now c.if-bytes-lt32.false
    (sym c.u64_at.ensures ∙ c.if-u64_at-ne0.false)
    (sym c.u64_at-2.ensures ∙ c.if-u64_at-ne0-2.false)
    (sym c.u64_at-3.ensures ∙ c.if-u64_at-ne0-3.false)
    (sym c.u64_at-4.ensures ∙ c.if-u64_at-ne0-4.false)
