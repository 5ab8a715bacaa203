use Rattle.ranges.proofs.Common.{subst, sym, arith, ints}
use Rattle.ranges.specs.Lows.{Has}
use Rattle.ranges.proofs.Extended.{extended_half}
use Rattle.ranges.proofs.low.Low.extended.Goals as goal

pub returns-then-self-all-clause-contains : goal.returns-then-self-all-clause-contains
returns-then-self-all-clause-contains c = λ x h.
    let s = c.args.self in
    let o = s.signed_ordered in
    let least = (c.all_halves-all.ensures.signed s.signed_least).0
    (omega (arith, ints), omega (arith, ints)) in
    let greatest =
    (c.all_halves-all.ensures.signed s.signed_greatest).0
    (omega (arith, ints), omega (arith, ints)) in
    subst (Has s)
    (sym (extended_half c.args.extension x s.signed_least s.signed_greatest least greatest
    h.signed_from h.signed_to)) h

pub returns-then-self-all-clause-signed : goal.returns-then-self-all-clause-signed
returns-then-self-all-clause-signed c = λ e h.
    let s = c.args.self in
    let o = s.signed_ordered in (
      (c.all_halves-all.ensures.signed s.signed_least).0 (omega (arith, ints), omega (arith, ints)),
      (c.all_halves-all.ensures.signed s.signed_greatest).0
          (omega (arith, ints), omega (arith, ints)),
    )

pub returns-else-all-self-clause-contains : goal.returns-else-all-self-clause-contains
returns-else-all-self-clause-contains c = λ x h. c.all_halves-all.ensures.contains x
