use Rattle.rechecking.proofs.Common.{◌≡◌, true, is_kind_kept, FirstHave}
use Rattle.rechecking.proofs.changes.are_kinds_kept.Given as goal

abbrev pub invariant-loop-index : goal.invariant-loop-index
invariant-loop-index l = FirstHave (λ k. is_kind_kept l.change k ≡ true) l.index l.kinds
