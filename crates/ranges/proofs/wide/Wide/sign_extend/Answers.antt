use Rattle.ranges.proofs.Common.{arith, ◌≡◌, ◌∙◌, sign_extended_below}
use Rattle.ranges.proofs.Limits.{extended_same, extended_signed, extended_small}
use Rattle.ranges.proofs.wide.Wide.sign_extend.Goals as goal

pub returns-then-a-clause-fits : goal.returns-then-a-clause-fits
returns-then-a-clause-fits c =
    let b = sign_extended_below c.args.extension c.args.a.least in
    let same = c.constant.ensures.constant.1 in
    let is = c.sign_extend.ensures in
    omega arith

pub returns-then-a-clause-small : goal.returns-then-a-clause-small
returns-then-a-clause-small c = λ small.
    let e = extended_small c.args.extension c.args.a.least (omega arith) in
    let is = c.sign_extend.ensures in
    let least = c.constant.ensures.constant.0 in
    let greatest = c.constant.ensures.constant.1 in
    (omega arith, omega arith)

pub returns-then-a-clause-signed : goal.returns-then-a-clause-signed
returns-then-a-clause-signed c = λ x hx full.
    let f = extended_signed c.args.extension c.args.a.least full in
    let is = c.constant.ensures.constant in
    (rw (is.2, c.sign_extend.ensures) f, rw (is.3, c.sign_extend.ensures) f)

pub returns-then-a-clause-kept : goal.returns-then-a-clause-kept
returns-then-a-clause-kept c = λ x hx full is.
    let a = c.args.a in
    let one : x ≡ a.least = omega arith in
    let h = rw one at hx in
    let same = extended_same c.args.extension a.least a.signed_least a.signed_greatest full h.below
    is.0 is.1 h.signed_from h.signed_to in
    let u : c.sign_extend.result ≡ a.least = c.sign_extend.ensures ∙ same in
    let k = c.constant.ensures.constant in
    let l = k.0 in
    let g = k.1 in
    (omega arith, omega arith, rw (k.2, u) h.signed_from, rw (k.3, u) h.signed_to)
