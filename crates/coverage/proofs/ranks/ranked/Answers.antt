use Rattle.std.proofs.Common.{◌≡◌, ◌+◌, ◌<◌, length, count_by, nat_lt, ap, arith}
use Rattle.coverage.proofs.RanksLaws.{count_below-suc, count_most, count_below-zero, count_below-all}
use Rattle.coverage.proofs.ranks.ranked.Goals as goal

pub loop-number-init : goal.loop-number-init
loop-number-init c = λ numbers counts.
    let none = count_below-zero numbers in
    omega (arith, none)

pub loop-number-preserved : goal.loop-number-preserved
loop-number-preserved c = λ numbers counts.
    let so_far = c.loop-number.invariant numbers counts in
    let more = count_below-suc c.loop-number.number numbers in
    let here = counts c.loop-number.number (omega arith) in
    omega (arith, so_far, more, here)

pub returns-then-left-count : goal.returns-then-left-count
returns-then-left-count c = λ numbers counts all below.
    let so_far = c.loop-number.invariant numbers counts in
    let more = count_below-suc c.loop-number.number numbers in
    let most = count_most c.loop-number.number numbers in
    let here = counts c.loop-number.number (omega arith) in
    (omega (arith, so_far), omega (arith, so_far, more, most, here))

pub returns : goal.returns
returns c = λ numbers counts all below.
    let so_far = c.loop-number.invariant numbers counts in
    let whole = count_below-all _ numbers all in
    let end : c.loop-number.number ≡ length c.args.taken.now = omega arith in
    let same = ap (λ n. count_by (λ x. nat_lt x n) numbers) end in
    absurd (omega (arith, so_far, whole, below, same))
