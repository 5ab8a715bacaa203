use Rattle.ranges.proofs.Common.{◌≡◌, ◌%◌, ◌^◌, arith, subst, ap, ◌∙◌, sign_extended, sign_extended_below, extension_signed, Has}
use Rattle.ranges.proofs.Limits.{extended_same, extended_signed, extended_small}
use Rattle.ranges.proofs.Extended.{extended_half, half_extended_signed}
use Rattle.ranges.proofs.FitsLaws.{narrower_fits}
use Rattle.ranges.proofs.RangeLaws.{wide_trans, low_trans, constant_tight}
use Rattle.ranges.proofs.range.Range.sign_extend.Goals as goal

-- ---- constants

pub returns-then-a-clause-contains : goal.returns-then-a-clause-contains
returns-then-a-clause-contains c = λ x h.
    let from = h.0.from in
    let to = h.0.to in
    let one : x ≡ c.args.a.wide.least = omega arith in
    let is : c.sign_extend.result ≡ sign_extended c.args.extension x =
    rw one c.sign_extend.ensures in
    subst (Has c.constant.result) is c.constant.ensures.contains

pub returns-then-a-clause-fits : goal.returns-then-a-clause-fits
returns-then-a-clause-fits c =
    let b = sign_extended_below c.args.extension c.args.a.wide.least in
    let same = c.constant.ensures.constant.0.1 in
    let is = c.sign_extend.ensures in
    omega arith

pub returns-then-a-clause-small : goal.returns-then-a-clause-small
returns-then-a-clause-small c = λ small.
    let e = extended_small c.args.extension c.args.a.wide.least (omega arith) in
    let is = c.sign_extend.ensures in
    let least = c.constant.ensures.constant.0.0 in
    let greatest = c.constant.ensures.constant.0.1 in
    (omega arith, omega arith)

pub returns-then-a-clause-signed : goal.returns-then-a-clause-signed
returns-then-a-clause-signed c = λ x hx full.
    let f = extended_signed c.args.extension c.args.a.wide.least full in
    let is = c.constant.ensures.constant.0 in
    (rw (is.2, c.sign_extend.ensures) f, rw (is.3, c.sign_extend.ensures) f)

pub returns-then-a-clause-kept : goal.returns-then-a-clause-kept
returns-then-a-clause-kept c = λ x hx full is.
    let a = c.args.a.wide in
    let from = hx.0.from in
    let to = hx.0.to in
    let one : x ≡ a.least = omega arith in
    let h = rw one at hx in
    let same = extended_same c.args.extension a.least a.signed_least a.signed_greatest full
    h.0.below is.0 is.1 h.0.signed_from h.0.signed_to in
    let u : c.sign_extend.result ≡ a.least = c.sign_extend.ensures ∙ same in
    let k = c.constant.ensures.constant in
    let l = k.0.0 in
    let g = k.0.1 in
    let v = ap (λ n. n % 2 ^ 32) u in
    let first = h.1.from in
    let last = h.1.to in (
      (omega arith, omega arith, rw (k.0.2, u) h.0.signed_from, rw (k.0.3, u) h.0.signed_to),
      (
        omega (arith, k.1.0, v, first),
        omega (arith, k.1.1, v, last),
        rw (k.1.2, u) h.1.signed_from,
        rw (k.1.3, u) h.1.signed_to,
      ),
    )

pub returns-then-a-clause-low_signed : goal.returns-then-a-clause-low_signed
returns-then-a-clause-low_signed c = λ x hx.
    let f = half_extended_signed c.args.extension c.args.a.wide.least in
    let is = c.constant.ensures.constant.1 in
    (rw (is.2, c.sign_extend.ensures) f, rw (is.3, c.sign_extend.ensures) f)

pub returns-then-a-clause-low_kept : goal.returns-then-a-clause-low_kept
returns-then-a-clause-low_kept c = λ x hx is.
    let a = c.args.a.low in
    let from = hx.0.from in
    let to = hx.0.to in
    let one : x ≡ c.args.a.wide.least = omega arith in
    let same = extended_half c.args.extension x a.signed_least a.signed_greatest is.0 is.1
    hx.1.signed_from hx.1.signed_to in
    let u : c.sign_extend.result ≡ sign_extended c.args.extension x =
    rw one c.sign_extend.ensures in
    let v : c.sign_extend.result % 2 ^ 32 ≡ x % 2 ^ 32 = ap (λ n. n % 2 ^ 32) u ∙ same in
    let k = c.constant.ensures.constant.1 in
    let first = hx.1.from in
    let last = hx.1.to in (
      omega (arith, k.0, v, first),
      omega (arith, k.1, v, last),
      rw (k.2, v) hx.1.signed_from,
      rw (k.3, v) hx.1.signed_to,
    )

pub returns-then-a-clause-tight : goal.returns-then-a-clause-tight
returns-then-a-clause-tight c = λ x h.
    constant_tight c.constant.result c.sign_extend.result c.constant.ensures.constant
    c.constant.ensures.contains

-- ---- other numbers

pub returns-clause-contains : goal.returns-clause-contains
returns-clause-contains c = λ x h.
    c.settled.ensures.contains _
    (c.sign_extend-2.ensures.contains x h.0, c.low_extended.ensures.contains x h)

pub returns-clause-tight : goal.returns-clause-tight
returns-clause-tight c = λ x h.
    c.settled.ensures.tight _
    (c.sign_extend-2.ensures.contains x h.0, c.low_extended.ensures.contains x h)

pub returns-clause-signed : goal.returns-clause-signed
returns-clause-signed c = λ x hx full.
    let w = c.sign_extend-2.result in
    let r = c.settled.result.wide in
    narrower_fits
    (extension_signed c.args.extension) w.signed_least w.signed_greatest r.signed_least
    r.signed_greatest
    (c.sign_extend-2.ensures.signed x hx.0 full) c.settled.ensures.enclosed.0.2 r.signed_ordered
    c.settled.ensures.enclosed.0.3

pub returns-clause-kept : goal.returns-clause-kept
returns-clause-kept c = λ x hx full is.
    let k = c.sign_extend-2.ensures.kept x hx.0 full is in
    let e = c.settled.ensures.enclosed in (
      wide_trans c.args.a.wide c.sign_extend-2.result c.settled.result.wide k e.0,
      low_trans c.args.a.low c.low_extended.result c.settled.result.low
          (c.low_extended.ensures.same full is) e.1,
    )

pub returns-clause-low_signed : goal.returns-clause-low_signed
returns-clause-low_signed c = λ x hx.
    let l = c.low_extended.result in
    let r = c.settled.result.low in
    narrower_fits
    (extension_signed c.args.extension) l.signed_least l.signed_greatest r.signed_least
    r.signed_greatest
    (c.low_extended.ensures.signed x hx) c.settled.ensures.enclosed.1.2 r.signed_ordered
    c.settled.ensures.enclosed.1.3

pub returns-clause-low_kept : goal.returns-clause-low_kept
returns-clause-low_kept c = λ x hx is.
    low_trans c.args.a.low c.low_extended.result c.settled.result.low
    (c.low_extended.ensures.kept is) c.settled.ensures.enclosed.1
