use Rattle.table_entries.proofs.Common.{sym, arith, ints}
use Rattle.table_entries.proofs.KindLaws.{wide_of-made, wide_of-none}
use Rattle.table_entries.proofs.kinds.wide_of.Goals as goal

pub returns-then-least-greatest : goal.returns-then-least-greatest
returns-then-least-greatest c =
    let a = c.args in
    let past = c.if-least-greatest.true in
    sym (wide_of-none a.least a.greatest a.signed_least a.signed_greatest (λ o p. omega arith))

pub returns-then-signed_least-signed_greatest : goal.returns-then-signed_least-signed_greatest
returns-then-signed_least-signed_greatest c =
    let a = c.args in
    let past = c.if-signed_least-signed_greatest.true in
    sym (wide_of-none a.least a.greatest a.signed_least a.signed_greatest
    (λ o p. omega (arith, ints)))

pub invariant_of-result : goal.invariant_of-result
invariant_of-result c =
    record { ordered = omega arith; signed_ordered = omega (arith, ints) }

pub returns : goal.returns
returns c = wide_of-made _ _ _ (omega (arith, ints)) (omega (arith, ints))
