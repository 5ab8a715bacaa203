use Rattle.ranges.proofs.Common.{ℤ, pos, negsuc, w64, rules, arith, ◌<ℤ◌, ◌≤ℤ◌, FitsSigned, int_div, cast_signed, cast_unsigned, ints, to_z-of_z, quot_fits}
use Rattle.ranges.proofs.Limits.{cast_fits, signed_below_64}
use Rattle.ranges.proofs.QuotientLaws.{quotient_up}
use Rattle.ranges.proofs.wide.Wide.quotient_by_positive.Goals as goal

up : (a b by : ℤ) → pos 0 <ℤ by → a ≤ℤ b → int_div a by ≤ℤ int_div b by
up a b (pos by) some h = quotient_up a b by h
up a b (negsuc by) some h = absurd (omega (arith, ints))

pub signed_between-requires : goal.signed_between-requires
signed_between-requires c =
    let a = c.args.self in
    let by = c.args.by in
    let f : FitsSigned w64 by = c.ranges.by in
    let f1 : FitsSigned w64 a.signed_least = search rules in
    let f2 : FitsSigned w64 a.signed_greatest = search rules in
    let g1 = quot_fits w64 a.signed_least by f1 c.requires in
    let g2 = quot_fits w64 a.signed_greatest by f2 c.requires in
    simp to_z-of_z (up a.signed_least a.signed_greatest by c.requires a.signed_ordered)

pub returns-clause-contains : goal.returns-clause-contains
returns-clause-contains c = λ x hx.
    let a = c.args.self in
    let by = c.args.by in
    let f : FitsSigned w64 by = c.ranges.by in
    let f1 : FitsSigned w64 a.signed_least = search rules in
    let f2 : FitsSigned w64 a.signed_greatest = search rules in
    let g1 = quot_fits w64 a.signed_least by f1 c.requires in
    let g2 = quot_fits w64 a.signed_greatest by f2 c.requires in
    let g = quot_fits w64 (cast_signed w64 x) by (cast_fits x hx.below) c.requires in
    (c.signed_between.ensures.members (cast_unsigned w64 (int_div (cast_signed w64 x) by))).1 (
      signed_below_64 (int_div (cast_signed w64 x) by) g,
      simp to_z-of_z (up a.signed_least (cast_signed w64 x) by c.requires hx.signed_from),
      simp to_z-of_z (up (cast_signed w64 x) a.signed_greatest by c.requires hx.signed_to),
    )

pub returns-clause-limits : goal.returns-clause-limits
returns-clause-limits c =
    let a = c.args.self in
    let by = c.args.by in
    let f : FitsSigned w64 by = c.ranges.by in
    let f1 : FitsSigned w64 a.signed_least = search rules in
    let f2 : FitsSigned w64 a.signed_greatest = search rules in
    let g1 = quot_fits w64 a.signed_least by f1 c.requires in
    let g2 = quot_fits w64 a.signed_greatest by f2 c.requires in
    let limits = simp to_z-of_z at c.signed_between.ensures.limits in
    (omega (arith, ints, limits.0), omega (arith, ints, limits.1))
