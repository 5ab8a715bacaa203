use Rattle.map_indexes.proofs.Common.{◌≡◌, ℕ, ◌<◌, true, is_some, key_in}
use Rattle.map_indexes.proofs.scan.ScanIndex.vacant.Given as goal

abbrev pub invariant-loop-i : goal.invariant-loop-i
invariant-loop-i l = (j : ℕ) → j < l.i → is_some (key_in l.self.keys.by_place j) ≡ true
