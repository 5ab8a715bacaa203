use Rattle.std.proofs.Common.{arith, append_assoc}
use Rattle.itoa.proofs.Decimal.{decimal_pair}
use Rattle.host.proofs.numbers.push_short.Goals as goal

pub returns-else-number-lt100-clause-items : goal.returns-else-number-lt100-clause-items
returns-else-number-lt100-clause-items c =
    rw (c.push_pair.ensures.items, c.push_first-else-number-lt100.ensures.items, append_assoc, ← decimal_pair c.args.number (grind (arith, c.if-number-lt100.false)) (grind (arith, c.requires.four)))
