use Rattle.ranges.proofs.Common.{ℕ, ◌≢◌, ◌%◌, ◌^◌, subst, sym, ◌∙◌, IfSome_then, none-some, IsLimit, Has}
use Rattle.ranges.proofs.range.Range.low_unequal_to.Goals as goal

pub returns-in-Some-clause-limit : goal.returns-in-Some-clause-limit
returns-in-Some-clause-limit c =
    let alone = c.in-Some.ensures.alone in
    IfSome_then c.low_without.result c.low_without.ensures.limit
    (λ r excluded v only.
    subst (λ (n : ℕ). IsLimit c.args.self.low n → (x : ℕ) → Has r x → x % 2 ^ 32 ≢ n)
    (sym alone.0 ∙ only.0) excluded)

pub returns-in-None-clause-limit : goal.returns-in-None-clause-limit
returns-in-None-clause-limit c = λ v only. absurd (none-some v (c.in-None.ensures.found v only))
