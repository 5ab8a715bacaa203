-- A search as far as it has come: the slots that it found are marked, and those from which it has
-- not gone on yet are its frontier.
use Rattle.std.specs.Prelude.{◌≡◌, ℕ, ◌+◌, ◌*◌, ◌<◌, ◌≤◌, ◌⊎◌, Bool, true, not, List, length, replicate, count_by, Contains}
use Rattle.control_flow.specs.Flows.{IsMarked}

-- how much of the search is left: 2 for each slot that it has not found, and 1 for each of the
-- frontier
abbrev pub search_left : List Bool → List ℕ → ℕ
search_left found frontier = 2 * count_by not found + length frontier

-- the wanted slots are found, and nothing else is added; the new ones are added to the frontier
pub record Extends (Wanted : ℕ → Type 0) (found : List Bool) (frontier : List ℕ)
    (found' : List Bool) (frontier' : List ℕ) : Type 0 where
  pub same : length found' ≡ length found
  pub all : (k : ℕ) → Wanted k → IsMarked found' k
  pub kept : (k : ℕ) → IsMarked found k → IsMarked found' k
  pub stays : (k : ℕ) → Contains frontier k → Contains frontier' k
  pub new : (k : ℕ) → IsMarked found' k → IsMarked found k ⊎ (Contains frontier' k × Wanted k)
  pub adds : (k : ℕ) → Contains frontier' k → Contains frontier k ⊎ IsMarked found' k
  pub even : count_by not found' + length frontier' ≤ count_by not found + length frontier
  pub less : search_left found' frontier' ≤ search_left found frontier

-- all slots of the code are found, and are the frontier
pub record HasAll (size : ℕ) (found : List Bool) (frontier : List ℕ) : Type 0 where
  pub found_all : found ≡ replicate size true
  pub as_many : length frontier ≡ size
  pub each : (k : ℕ) → k < size → Contains frontier k
  pub only : (k : ℕ) → Contains frontier k → k < size
