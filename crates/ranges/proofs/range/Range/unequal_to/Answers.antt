use Rattle.ranges.proofs.Common.{ℕ, subst, refl, sym, ◌∙◌, IfSome_then, none-some}
use Rattle.ranges.specs.Ranges.{Has, IsLimit}
use Rattle.ranges.proofs.range.Range.unequal_to.Goals as goal

pub returns-in-Some-clause-limit : goal.returns-in-Some-clause-limit
returns-in-Some-clause-limit c =
    let alone = (c.in-Some.ensures.value c.in-Some.number).0 refl in
    IfSome_then c.without.result c.without.ensures.limit
    (λ r excluded v only.
    subst (λ (n : ℕ). IsLimit c.args.self n → Has r n → ⊥) (sym alone.0 ∙ only.0) excluded)

pub returns-in-None-clause-limit : goal.returns-in-None-clause-limit
returns-in-None-clause-limit c = λ v only. absurd (none-some v ((c.in-None.ensures.value v).1 only))
