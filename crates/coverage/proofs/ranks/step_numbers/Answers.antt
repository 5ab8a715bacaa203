use Rattle.coverage.proofs.Common.{◌≡◌, ℕ, ◌-◌, ◌/◌, ◌<◌, length, subst, arith, nil_from_length, HasRank}
use Rattle.coverage.proofs.ranks.step_numbers.Goals as goal

pub returns-then-count-eq0 : goal.returns-then-count-eq0
returns-then-count-eq0 c = λ numbers counts all same.
    nil_from_length numbers (omega (arith, same, c.if-count-eq0.true))

pub returns : goal.returns
returns c = λ numbers counts all same.
    let some : 0 < length numbers = omega (arith, same, c.if-count-eq0.false) in
    record {
      some = some;
      least = c.ranked-least.ensures numbers counts all some;
      median =
          subst (λ (n : ℕ). HasRank numbers ((n - 1) / 2) c.ranked-median.result) same
          (c.ranked-median.ensures numbers counts all (omega (arith, same, some)));
      greatest =
          subst (λ (n : ℕ). HasRank numbers (n - 1) c.ranked-greatest.result) same
          (c.ranked-greatest.ensures numbers counts all (omega (arith, same, some)));
    }
