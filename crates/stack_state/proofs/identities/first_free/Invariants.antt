use Rattle.stack_state.proofs.Common.{◌≡◌, ℕ, ◌<◌, true, is_marked}
use Rattle.stack_state.proofs.identities.first_free.Given as goal

-- all below it are named
abbrev pub invariant-loop-identity : goal.invariant-loop-identity
invariant-loop-identity l = (i : ℕ) → 0 < i → i < l.identity → is_marked l.named i ≡ true
