use Rattle.ranges.proofs.Common.{◌%◌, ◌^◌, subst, sym, ℕ, extension_signed}
use Rattle.ranges.specs.Lows.{Has}
use Rattle.ranges.proofs.FitsLaws.{narrower_fits}
use Rattle.ranges.proofs.range.Range.low_extended.Goals as goal

pub returns-then-is_extended-clause-contains : goal.returns-then-is_extended-clause-contains
returns-then-is_extended-clause-contains c = λ x h.
    let same = c.is_extended.ensures.sound c.if-is_extended.true x h.0 in
    c.with.ensures.common _ (subst (λ (n : ℕ). Has c.args.self.low (n % 2 ^ 32)) (sym same) h.1)
    (c.extended-extended.ensures.contains x h.1)

pub returns-then-is_extended-clause-signed : goal.returns-then-is_extended-clause-signed
returns-then-is_extended-clause-signed c = λ x h.
    let same = c.is_extended.ensures.sound c.if-is_extended.true x h.0 in
    let e = c.extended-extended.result in
    let r = c.with.result in
    let within =
    c.with.ensures.other _ (subst (λ (n : ℕ). Has c.args.self.low (n % 2 ^ 32)) (sym same) h.1)
    (c.extended-extended.ensures.contains x h.1) in
    narrower_fits
    (extension_signed c.args.extension) e.signed_least e.signed_greatest r.signed_least
    r.signed_greatest
    (c.extended-extended.ensures.signed _ h.1) within.2 r.signed_ordered within.3
