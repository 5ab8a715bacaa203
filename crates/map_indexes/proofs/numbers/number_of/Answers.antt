use Rattle.map_indexes.proofs.Common.{◌≡◌, ℕ, zero, suc, ◌-◌, Some, refl, sym, ap, arith, number_of}
use Rattle.map_indexes.proofs.numbers.number_of.Goals as goal

some : (n : ℕ) → (n ≡ 0 → ⊥) → Some (n - 1) ≡ number_of n
some zero d = absurd (d refl)
some (suc n) d = let e : suc n - 1 ≡ n = omega arith in ap Some e

pub returns-then-code-eq0 : goal.returns-then-code-eq0
returns-then-code-eq0 c = ap number_of (sym c.if-code-eq0.true)

pub returns-else-code-eq0 : goal.returns-else-code-eq0
returns-else-code-eq0 c = some c.args.code c.if-code-eq0.false
