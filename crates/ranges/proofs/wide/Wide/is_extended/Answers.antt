use Rattle.ranges.proofs.Common.{arith, rules, ◌≡◌, sym, w64, ◌≤ℤ◌, FitsSigned, ints, to_z-of_z, Full64, sign_extended-small, extension_width}
use Rattle.ranges.proofs.Limits.{extended_same, sign_bit_fits, test_le}
use Rattle.ranges.proofs.wide.Wide.is_extended.Goals as goal

pub returns-then-self-sign_bit_read-clause-sound : goal.returns-then-self-sign_bit_read-clause-sound
returns-then-self-sign_bit_read-clause-sound c = λ t x hx.
    sign_extended-small c.args.extension x c.sign_bit_read.result c.sign_bit_read.ensures
    (omega arith)

pub returns-then-self-sign_bit_read-clause-fits : goal.returns-then-self-sign_bit_read-clause-fits
returns-then-self-sign_bit_read-clause-fits c = λ t.
    let h = sign_bit_fits c.args.extension c.sign_bit_read.result c.sign_bit_read.ensures in
    omega arith

pub returns-then-all-self-clause-sound : goal.returns-then-all-self-clause-sound
returns-then-all-self-clause-sound c = λ t x hx.
    let all = c.all_extended-all.result in
    let f1 : FitsSigned w64 c.args.self.signed_greatest = search rules in
    let f2 : FitsSigned w64 all.signed_greatest = search rules in
    let top : c.args.self.signed_greatest ≤ℤ all.signed_greatest =
    test_le _ _ (simp to_z-of_z at t) in
    let full : extension_width c.args.extension ≡ Full64 = sym c.in-Full64.ensures in
    let ordered = all.signed_ordered in
    let least = (c.all_extended-all.ensures.signed full all.signed_least).0
    (omega (arith, ints), ordered) in
    let greatest =
    (c.all_extended-all.ensures.signed full all.signed_greatest).0
    (ordered, omega (arith, ints)) in
    extended_same c.args.extension x all.signed_least all.signed_greatest full hx.below least
    greatest
    (let from = hx.signed_from in omega (arith, ints))
    (let to = hx.signed_to in omega (arith, ints))

pub returns-then-all-self-clause-signed : goal.returns-then-all-self-clause-signed
returns-then-all-self-clause-signed c = λ full is.
    let p = (c.all_extended-all.ensures.signed full c.args.self.signed_greatest).1 is.1 in
    let q = p.1 in
    grind (arith, ints)
