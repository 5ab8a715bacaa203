-- What filling the front of a buffer does to the bytes that its source has left.
use Rattle.std.specs.Prelude.{◌≡◌, ℕ, ◌<◌, ◌≤◌, List, max, ◌++◌, Option}
use Rattle.std.specs.Io.KnownBytes.{Keeps, IsAtEnd, prepend_known}
use Rattle.captures.specs.declared.collecting.Collected.{Collected}
use Rattle.captures.specs.declared.collecting.Collected.TheVariants.{Whole, Ended, Failed}

-- bytes moved from the source to the end of the front
pub record Collects (old new : Option (List ℕ)) (front after : List ℕ) : Type 0 where
  pub more : List ℕ
  pub grows : after ≡ front ++ more
  pub kept : Keeps (prepend_known front old) (prepend_known after new)

-- how many bytes the front has after it had `count`
abbrev pub IsCollected : Option (List ℕ) → ℕ → ℕ → Collected → ℕ → Type 0
IsCollected new count wanted Whole after = after ≡ max count wanted
IsCollected new count wanted Ended after = (count ≤ after) × (after < wanted) × IsAtEnd new
IsCollected new count wanted Failed after = (count ≤ after) × (after < wanted)
