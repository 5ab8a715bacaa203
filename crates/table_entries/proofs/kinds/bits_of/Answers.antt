use Rattle.std.proofs.Common.{sym}
use Rattle.table_entries.proofs.KindLaws.{bits_of-is, bits_of-none}
use Rattle.table_entries.proofs.kinds.bits_of.Goals as goal

pub returns-then-value-mask-eq0 : goal.returns-then-value-mask-eq0
returns-then-value-mask-eq0 c =
    sym (bits_of-is (record {
      value = c.args.value;
      mask = c.args.mask;
      apart = c.result-1.given.0;
      fits = c.result-1.given.1.0;
    }))

pub returns-else-value-mask-eq0 : goal.returns-else-value-mask-eq0
returns-else-value-mask-eq0 c =
    sym (bits_of-none c.args.value c.args.mask c.if-value-mask-eq0.false)
