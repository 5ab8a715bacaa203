-- The path as it is kept: pending states in a list of their own.
use Rattle.std.specs.Prelude.{◌≡◌, ℕ, ◌+◌, ◌++◌, max, List, [], ◌∷◌, Option, Some, None, Bool, true, false}
use Rattle.stack_state.specs.declared.states.State.{State}
use Rattle.explorer.specs.declared.trail.Visit.{Visit}
use Rattle.explorer.specs.declared.trail.KeptVisit.{KeptVisit}

-- what contracts see of a trail
pub record Visits : Type 0 where
  pub items : List Visit

-- a visit with a pending state has the first of the states
abbrev pub pending_of : Bool → List State → Option State
pending_of false states = None
pending_of true [] = None
pending_of true (s ∷ states) = Some s

-- the states for the visits after it
abbrev pub states_left : Bool → List State → List State
states_left false states = states
states_left true [] = []
states_left true (s ∷ states) = states

unfoldable pub visits_of : List KeptVisit → List State → List Visit
visits_of [] states = []
visits_of (kept ∷ visits) states =
    record { pending = pending_of kept.waits states; best = kept.best; stored = kept.stored }
    ∷ visits_of visits (states_left kept.waits states)

abbrev pub one_if : Bool → ℕ
one_if false = 0
one_if true = 1

-- how many visits have a pending state
abbrev pub waiting_count : List KeptVisit → ℕ
waiting_count [] = 0
waiting_count (kept ∷ visits) = one_if kept.waits + waiting_count visits

-- the last visit, whose pending state s is taken, and where a state after it has number n
pub record TakesFromLast (n : ℕ) (old : List Visit) (s : State) (new : List Visit) : Type 0 where
  pub path : List Visit
  pub visit : Visit
  pub was : old ≡ path ++ visit ∷ []
  pub pending : visit.pending ≡ Some s
  pub now : new
      ≡ path ++ record { pending = None; best = max visit.best n; stored = visit.stored } ∷ []

-- the path goes on from its last visit with what was pending there, and a state after it has
-- number n; None: nothing was pending
abbrev pub TakesLastPending : ℕ → List Visit → Option State → List Visit → Type 0
TakesLastPending n old None new =
    (new ≡ old) × ((path : List Visit) (visit : Visit) → old ≡ path ++ visit ∷ []
    → visit.pending ≡ None)
TakesLastPending n old (Some s) new = TakesFromLast n old s new
