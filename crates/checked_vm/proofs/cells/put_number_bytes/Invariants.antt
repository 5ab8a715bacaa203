use Rattle.checked_vm.proofs.Common.{◌≡◌, ◌<◌, ℕ, length, map, slice_index, slice_index_or, byte_in}
use Rattle.checked_vm.proofs.cells.put_number_bytes.Given as goal

abbrev pub invariant-loop-k : goal.invariant-loop-k
invariant-loop-k l =
    (length l.bytes ≡ length l.cells)
    × ((j : ℕ) → j < l.k → slice_index_or l.bytes j 0 ≡ slice_index (map byte_in l.cells) j)
