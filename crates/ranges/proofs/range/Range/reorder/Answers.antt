use Rattle.ranges.proofs.Common.{ℕ, ◌≡◌, ◌%◌, ◌<◌, ◌^◌, subst, ap, ◌∙◌, arith, mod-eq_of_lt, reordered, reordered_below, span_bits, Has}
use Rattle.isa_model.specs.declared.sizes.SwapWidth.{SwapWidth}
use Rattle.isa_model.specs.declared.sizes.SwapWidth.TheVariants.{B16, B32, B64}
use Rattle.ranges.proofs.RangeLaws.{constant_tight}
use Rattle.ranges.proofs.range.Range.reorder.Goals as goal

-- low bytes that hold the low half are the low half
low_part_same : (span : SwapWidth) (x : ℕ) → x % 2 ^ 32 < 2 ^ span_bits span
    → (x % 2 ^ span_bits span) % 2 ^ 32 ≡ x % 2 ^ 32
low_part_same B16 x h = omega arith
low_part_same B32 x h = omega arith
low_part_same B64 x h = omega arith

pub returns-then-a-clause-contains : goal.returns-then-a-clause-contains
returns-then-a-clause-contains c = λ x h.
    let from = h.0.from in
    let to = h.0.to in
    let one : x ≡ c.args.a.wide.least = omega arith in
    let is : c.reorder.result ≡ reordered c.args.order c.args.span x = rw one c.reorder.ensures in
    subst (Has c.constant.result) is c.constant.ensures.contains

pub returns-then-a-clause-fits : goal.returns-then-a-clause-fits
returns-then-a-clause-fits c =
    let b = reordered_below c.args.order c.args.span c.args.a.wide.least in
    let same = c.constant.ensures.constant.0.1 in
    let is = c.reorder.ensures in
    omega arith

pub returns-then-a-clause-little : goal.returns-then-a-clause-little
unfolding reordered
returns-then-a-clause-little c = λ little small.
    let is = rw little at c.reorder.ensures in
    let m = mod-eq_of_lt {n = c.args.a.wide.least} {m = 2 ^ span_bits c.args.span} (omega arith) in
    let least = c.constant.ensures.constant.0.0 in
    let greatest = c.constant.ensures.constant.0.1 in
    (omega arith, omega arith)

pub returns-then-a-clause-low_little : goal.returns-then-a-clause-low_little
unfolding reordered
returns-then-a-clause-low_little c = λ x h little small.
    let from = h.0.from in
    let to = h.0.to in
    let one : x ≡ c.args.a.wide.least = omega arith in
    let is : c.reorder.result ≡ x % 2 ^ span_bits c.args.span =
    rw one (rw little at c.reorder.ensures) in
    let half = low_part_same c.args.span x (let e = h.1.to in omega arith) in
    let k = c.constant.ensures.constant.1 in
    let v = ap (λ n. n % 2 ^ 32) is ∙ half in
    let first = h.1.from in
    let last = h.1.to in
    (omega (arith, k.0, v, first), omega (arith, k.1, v, last))

pub returns-then-a-clause-tight : goal.returns-then-a-clause-tight
returns-then-a-clause-tight c = λ x h.
    constant_tight c.constant.result c.reorder.result c.constant.ensures.constant
    c.constant.ensures.contains

pub returns-in-Little-clause-tight : goal.returns-in-Little-clause-tight
returns-in-Little-clause-tight c = λ x h.
    c.settled.ensures.tight _
    (c.low_bytes.ensures.contains x h.0, c.low_part.ensures.contains x h.1)

pub returns-in-Little-clause-contains : goal.returns-in-Little-clause-contains
unfolding reordered
returns-in-Little-clause-contains c = λ x h.
    rw c.in-Little.is
    (c.settled.ensures.contains _
    (c.low_bytes.ensures.contains x h.0, c.low_part.ensures.contains x h.1))

pub returns-in_default-clause-contains : goal.returns-in_default-clause-contains
returns-in_default-clause-contains c = λ x h.
    let b = reordered_below c.args.order c.args.span x in
    let e = c.greatest_read.ensures in
    (c.between.ensures.members _).1 (omega arith, omega arith)
