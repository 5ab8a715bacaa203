-- Some bytes of a list, and a list with some bytes written.
use Rattle.std.specs.Prelude.{ℕ, ◌+◌, List, ◌++◌, take, drop, length}

-- `count` bytes, from index `at` on
abbrev pub bytes_at : List ℕ → ℕ → ℕ → List ℕ
bytes_at bytes at count = take count (drop at bytes)

-- the bytes with `written` at index `at`, and all others as they were
abbrev pub with_bytes : List ℕ → ℕ → List ℕ → List ℕ
with_bytes bytes at written = take at bytes ++ (written ++ drop (at + length written) bytes)
