use Rattle.std.proofs.Common.{sym, ◌∙◌}
use Rattle.table_entries.proofs.Spelled.{bits-spelled}
use Rattle.table_entries.proofs.spelling.are_bits.Goals as goal

pub returns : goal.returns
returns c =
    λ yes. bits-spelled c.args.bits.now _ _ (sym c.u64_at.ensures ∙ c.if-u64_at-bits.false)
    (sym c.u64_at-2.ensures ∙ c.if-u64_at-bits-2.false)
