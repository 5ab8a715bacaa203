use Rattle.std.proofs.Common.{arith, append_assoc}
use Rattle.itoa.proofs.Decimal.{decimal_four}
use Rattle.host.proofs.numbers.push_number.Goals as goal

pub returns-then-number-lt100000000-clause-items :
    goal.returns-then-number-lt100000000-clause-items
returns-then-number-lt100000000-clause-items c =
    rw (c.push_pair-then-number-lt100000000.ensures.items, c.push_pair.ensures.items, c.push_short-then-number-lt100000000.ensures.items, append_assoc, append_assoc, ← decimal_four c.args.number (grind (arith, c.if-number-lt10000.false)) (grind (arith, c.if-number-lt100000000.true)))
