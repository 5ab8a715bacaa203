-- Which lists have a byte at each index, as functions know it of their arguments.
use Rattle.std.specs.Prelude.{ℕ, ◌<◌, List, slice_index}

-- each index of the list has a number under 256, past its end 0. AreBytes says the same of the
-- list's elements (slice_index_fits)
abbrev pub EachByte : List ℕ → Type 0
EachByte xs = (i : ℕ) → slice_index xs i < 256
