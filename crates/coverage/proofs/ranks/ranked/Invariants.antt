use Rattle.coverage.proofs.Common.{◌≡◌, ℕ, ◌+◌, List, nat_lt, count_by, CountsExactly, is_number}
use Rattle.coverage.proofs.ranks.ranked.Given as goal

abbrev pub invariant-loop-number : goal.invariant-loop-number
invariant-loop-number l = (numbers : List ℕ) → CountsExactly is_number numbers l.taken
    → count_by (λ x. nat_lt x l.number) numbers + l.left ≡ l.fn.rank
