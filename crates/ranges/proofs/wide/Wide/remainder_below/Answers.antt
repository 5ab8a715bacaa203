use Rattle.ranges.proofs.Common.{w64, rules, arith, FitsSigned, ints, clamps}
use Rattle.ranges.proofs.wide.Wide.remainder_below.Goals as goal

pub signed_between-requires : goal.signed_between-requires
signed_between-requires c =
    let a = c.args.self in
    let some = c.requires in
    let f1 : FitsSigned w64 a.signed_least = search rules in
    let f2 : FitsSigned w64 a.signed_greatest = search rules in
    let least = c.max-least.ensures.value in
    let greatest = c.min-greatest.ensures.value in
    let low = c.min.ensures.value in
    let high = c.max.ensures.value in
    omega (arith, ints, clamps)

pub returns-clause-members : goal.returns-clause-members
returns-clause-members c = λ x small low high from to.
    let a = c.args.self in
    let some = c.requires in
    let f1 : FitsSigned w64 a.signed_least = search rules in
    let f2 : FitsSigned w64 a.signed_greatest = search rules in
    let least = c.max-least.ensures.value in
    let greatest = c.min-greatest.ensures.value in
    let down = c.min.ensures.value in
    let up = c.max.ensures.value in
    (c.signed_between.ensures.members x).1
    (small, omega (arith, ints, clamps), omega (arith, ints, clamps))

pub returns-clause-near : goal.returns-clause-near
returns-clause-near c =
    let a = c.args.self in
    let some = c.requires in
    let f1 : FitsSigned w64 a.signed_least = search rules in
    let f2 : FitsSigned w64 a.signed_greatest = search rules in
    let least = c.max-least.ensures.value in
    let greatest = c.min-greatest.ensures.value in
    let limits = c.signed_between.ensures.limits in
    (omega (arith, ints, clamps, limits.0), omega (arith, ints, clamps, limits.1))

pub returns-clause-within : goal.returns-clause-within
returns-clause-within c =
    let a = c.args.self in
    let some = c.requires in
    let f1 : FitsSigned w64 a.signed_least = search rules in
    let f2 : FitsSigned w64 a.signed_greatest = search rules in
    let least = c.max-least.ensures.value in
    let greatest = c.min-greatest.ensures.value in
    let down = c.min.ensures.value in
    let up = c.max.ensures.value in
    let limits = c.signed_between.ensures.limits in
    (omega (arith, ints, clamps, limits.0), omega (arith, ints, clamps, limits.1))
