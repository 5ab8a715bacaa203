use Rattle.table_entries.proofs.Common.{sym, arith, ints}
use Rattle.table_entries.proofs.KindLaws.{low_of-made, low_of-none}
use Rattle.table_entries.proofs.kinds.low_of.Goals as goal

pub returns-then-greatest-least : goal.returns-then-greatest-least
returns-then-greatest-least c =
    let a = c.args in
    let past = c.if-greatest-least.true in
    sym (low_of-none a.least a.greatest a.signed_least a.signed_greatest (λ o p. omega arith))

pub returns-then-signed_greatest-signed_least : goal.returns-then-signed_greatest-signed_least
returns-then-signed_greatest-signed_least c =
    let a = c.args in
    let past = c.if-signed_greatest-signed_least.true in
    sym (low_of-none a.least a.greatest a.signed_least a.signed_greatest
    (λ o p. omega (arith, ints)))

pub invariant_of-result : goal.invariant_of-result
invariant_of-result c =
    record { ordered = omega arith; signed_ordered = omega (arith, ints) }

pub returns : goal.returns
returns c = low_of-made _ _ _ (omega (arith, ints)) (omega (arith, ints))
