-- What is said of a code, as docs/REFUSALS.md has it.
use Rattle.std.specs.Prelude.{◌≡◌, ℕ, List, take, length}

-- a text that begins with the code
abbrev pub IsEntryOf : (code text : List ℕ) → Type 0
IsEntryOf code text = take (length code) text ≡ code
