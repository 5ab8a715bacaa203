use Rattle.image.proofs.Common.{◌≡◌, List, Option, None, sym, subst, rules, MapDef, Insn, IsImage, parts_refusal}
use Rattle.image.proofs.Whole.{parts, IsImage-parts}
use Rattle.image.proofs.images.Image.of.Goals as goal

pub invariant_of-result : goal.invariant_of-result
invariant_of-result c =
    let rows = c.args.maps.now in
    let xs = c.in_ok-slots.slots.items in
    let same : c.extend_from_slice.new.self.items ≡ rows = search rules in
    let none = subst (λ (l : List (Option Insn)). parts_refusal rows l ≡ None) c.deref.ensures.value
    (sym c.in_default.ensures) in
    subst (λ (l : List MapDef). IsImage (parts c.args.version l xs)) (sym same)
    (IsImage-parts c.args.version rows xs none c.in_ok-slots.ensures.code)

pub returns-clause-fits : goal.returns-clause-fits
returns-clause-fits c =
    let rows = c.args.maps.now in
    let xs = c.in_ok-slots.slots.items in
    let same : c.extend_from_slice.new.self.items ≡ rows = search rules in
    let none = subst (λ (l : List (Option Insn)). parts_refusal rows l ≡ None) c.deref.ensures.value
    (sym c.in_default.ensures) in
    subst (λ (l : List MapDef). IsImage (parts c.args.version l xs)) (sym same)
    (IsImage-parts c.args.version rows xs none c.in_ok-slots.ensures.code)
