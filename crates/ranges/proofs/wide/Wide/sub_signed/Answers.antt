use Rattle.ranges.proofs.Common.{arith, rules, w64, ◌+◌, ◌-◌, ◌%◌, ◌^◌, ◌<◌, FitsSigned, to_z-of_z}
use Rattle.ranges.proofs.Limits.{difference_from, difference_to}
use Rattle.ranges.proofs.wide.Wide.sub_signed.Goals as goal

pub returns-clause-contains : goal.returns-clause-contains
returns-clause-contains c = λ x y hx hy.
    let a = c.args.self in
    let b = c.args.other in
    let f1 : FitsSigned w64 a.signed_least = search rules in
    let f2 : FitsSigned w64 a.signed_greatest = search rules in
    let f3 : FitsSigned w64 b.signed_least = search rules in
    let f4 : FitsSigned w64 b.signed_greatest = search rules in
    let l = simp to_z-of_z at c.in-Some.ensures in
    let g = simp to_z-of_z at c.in-Some-checked_sub.ensures in
    let in_width : (x + (2 ^ 64 - y)) % 2 ^ 64 < 2 ^ 64 = omega arith in
    let low = difference_from x y a.signed_least b.signed_least a.signed_greatest b.signed_greatest
    hx.below hy.below hx.signed_from hx.signed_to hy.signed_from hy.signed_to l.0 g.0 in
    let high = difference_to x y a.signed_least b.signed_least a.signed_greatest b.signed_greatest
    hx.below hy.below hx.signed_from hx.signed_to hy.signed_from hy.signed_to l.0 g.0 in
    (c.signed_between.ensures.members _).1
    (in_width, rw l.1 (rw (to_z-of_z w64 _ l.0) low), rw g.1 (rw (to_z-of_z w64 _ g.0) high))

pub returns-in_default-clause-contains : goal.returns-in_default-clause-contains
returns-in_default-clause-contains c =
    λ x y hx hy. let in_width : (x + (2 ^ 64 - y)) % 2 ^ 64 < 2 ^ 64 = omega arith in
    (c.any.ensures.members _).1 in_width

pub returns-in_default-checked_sub-clause-contains : goal.returns-in_default-checked_sub-clause-contains
returns-in_default-checked_sub-clause-contains c =
    λ x y hx hy. let in_width : (x + (2 ^ 64 - y)) % 2 ^ 64 < 2 ^ 64 = omega arith in
    (c.any-in_default-checked_sub.ensures.members _).1 in_width

pub returns-in_default-checked_sub-clause-limits : goal.returns-in_default-checked_sub-clause-limits
returns-in_default-checked_sub-clause-limits c = λ fl fg.
    let a = c.args.self in
    let b = c.args.other in
    let f1 : FitsSigned w64 a.signed_greatest = search rules in
    let f2 : FitsSigned w64 b.signed_least = search rules in
    let none = simp to_z-of_z at c.in_default-checked_sub.ensures in
    absurd (none fg)

pub returns-in_default-clause-limits : goal.returns-in_default-clause-limits
returns-in_default-clause-limits c = λ fl fg.
    let a = c.args.self in
    let b = c.args.other in
    let f1 : FitsSigned w64 a.signed_least = search rules in
    let f2 : FitsSigned w64 b.signed_greatest = search rules in
    let none = simp to_z-of_z at c.in_default.ensures in
    absurd (none fl)
