use Rattle.std.proofs.Common.{◌≡◌, ℕ, ◌*◌, ◌<◌, get_or}
use Rattle.table_entries.proofs.slices.begins_with.Given as goal

abbrev pub invariant-loop-word : goal.invariant-loop-word
invariant-loop-word l =
    (k : ℕ) → k < 8 * l.word → get_or l.bytes k 0 ≡ get_or l.front k 0

abbrev pub invariant-loop-at : goal.invariant-loop-at
invariant-loop-at l = (k : ℕ) → k < l.at → get_or l.bytes k 0 ≡ get_or l.front k 0
