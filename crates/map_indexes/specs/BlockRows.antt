-- Blocks of bytes: rows of one size, place after place.
use Rattle.std.specs.Prelude.{ℕ, ◌+◌, ◌*◌, List, take, drop, length}
use Rattle.std.specs.List.{splice}

-- the row at a place
abbrev pub block_row : ℕ → List ℕ → ℕ → List ℕ
block_row size block place = take size (drop (place * size) block)

-- the block with this row at a place
abbrev pub with_block_row : ℕ → List ℕ → ℕ → List ℕ → List ℕ
with_block_row size block place row = splice block (place * size) (place * size + length row) row
