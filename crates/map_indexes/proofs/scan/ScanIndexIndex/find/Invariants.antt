use Rattle.map_indexes.proofs.Common.{◌≡◌, ℕ, ◌<◌, Some, key_in}
use Rattle.map_indexes.proofs.scan.ScanIndexIndex.find.Given as goal

abbrev pub invariant-loop-i : goal.invariant-loop-i
invariant-loop-i l = (j : ℕ) → j < l.i → key_in l.self.keys.by_place j ≡ Some l.key → ⊥
