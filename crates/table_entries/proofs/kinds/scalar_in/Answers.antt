use Rattle.std.proofs.Common.{refl}
use Rattle.table_entries.specs.Kinds.{scalar_in}
use Rattle.table_entries.proofs.kinds.scalar_in.Goals as goal

pub returns : goal.returns
unfolding scalar_in
returns c =
    rw (
      c.scalar_of.ensures,
      c.bits_in.ensures,
      c.range_of.ensures,
      c.wide_in.ensures,
      c.low_in.ensures,
      c.skip.ensures,
      c.skip-2.ensures,
    ) refl
