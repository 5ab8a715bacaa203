-- The calls that a search makes to a listener, and what a listener then knows of it.
use Rattle.std.specs.Prelude.{◌≡◌, ℕ, List, [], ◌∷◌, ◌++◌, reverse, Option, Some, None, Result, Err}
use Rattle.isa_model.specs.Code.Instructions.{Program}
use Rattle.stack_state.specs.declared.states.State.{State}
use Rattle.stack_state.specs.Starts.{start}
use Rattle.control_flow.specs.declared.kept_numbers.KeptNumbers.{KeptNumbers}
use Rattle.walks.specs.Forgetting.{Precision, Forgets}
use Rattle.walks.specs.Refused.{StopsIn, precision_of}
use Rattle.walks.specs.Walks.{StepsTo}
use Rattle.explorer.specs.Search.{IfStepsTo}
use Rattle.walks.specs.declared.refusals.Refusal.{Refusal}
use Rattle.walks.specs.declared.refusals.Refusal.TheVariants.{Flow, Step, Repeats, Memory}
use Rattle.explorer.specs.declared.trail.Visit.{Visit}
use Rattle.explorer.specs.declared.moves.Halt.{Halt}
use Rattle.explorer.specs.declared.moves.Halt.TheVariants.{Refused, Stopped}
use Rattle.explorer.specs.declared.moves.Move.{Move}
use Rattle.explorer.specs.declared.moves.Move.TheVariants.{New, Covered, Finished}
use Rattle.explorer.specs.declared.moves.NextMove.{NextMove}
use Rattle.explorer.specs.declared.moves.NextMove.TheVariants.{Explore, Done}

-- the fact holds of the refusal, if the search ended with one
abbrev pub IfRefused : {S : Type 0} → Halt S → (Refusal → ℕ → Type 0) → Type 0
IfRefused (Refused e slot) fact = fact e slot
IfRefused (Stopped stop) fact = Unit {0}

-- the fact holds, if the listener stopped the search
abbrev pub IfStopped : {S : Type 0} → Halt S → Type 0 → Type 0
IfStopped (Refused e slot) fact = Unit {0}
IfStopped (Stopped stop) fact = fact

-- ---- what a search does, as its path and its current state show it

-- a path with these states, the last one first, continues with the state
abbrev pub ComesTo : Precision → Program → List State → State → Type 0
ComesTo how p [] s = Forgets how p start s
ComesTo how p (a ∷ before) s = StepsTo how p a s

-- the path begins at the current state
abbrev pub BeginsPath : Precision → Program → Move → List Visit → State → Type 0
BeginsPath how p (New stored) path current = (path ≡ []) × ComesTo how p [] current
BeginsPath how p (Covered k n) path current = (path ≡ []) × ComesTo how p [] current
BeginsPath how p (Finished n) path current = ⊥

-- a visit was appended to the path: that of a state whose successors are the current one and what
-- is pending
pub record AddsVisit (how : Precision) (p : Program) (s : State) (old new : List Visit)
    (current : State) : Type 0 where
  pub visit : Visit
  pub pushed : new ≡ old ++ visit ∷ []
  pub steps : StepsTo how p s current
  pub aside : IfStepsTo how p s visit.pending

-- the step of a state has no successor, or the current one
abbrev pub ShowsStep : Precision → Program → State → List Visit → Move → List Visit → State → Type 0
ShowsStep how p s old (Finished n) new current = new ≡ old
ShowsStep how p s old (New stored) new current = AddsVisit how p s old new current
ShowsStep how p s old (Covered k n) new current = AddsVisit how p s old new current

-- the last visit was waiting for the current state, and has nothing else pending
pub record GoesAside (old new : List Visit) (current : State) : Type 0 where
  pub path : List Visit
  pub visit : Visit
  pub rest : Visit
  pub was : old ≡ path ++ visit ∷ []
  pub pushed : new ≡ path ++ rest ∷ []
  pub is_pending : visit.pending ≡ Some current
  pub nothing : rest.pending ≡ None

-- the search goes back: the last visit ends, or continues with what was pending
abbrev pub ShowsReturn : List Visit → Move → List Visit → State → Type 0
ShowsReturn old (Finished n) new current = (visit : Visit) × (old ≡ new ++ visit ∷ [])
ShowsReturn old (New stored) new current = GoesAside old new current
ShowsReturn old (Covered k n) new current = GoesAside old new current

abbrev pub IfReturns : List Visit → Option Move → List Visit → State → Type 0
IfReturns old None new current = Unit {0}
IfReturns old (Some made) new current = ShowsReturn old made new current

-- ---- why a search stops

-- the path comes back to the state, or memory ran out
abbrev pub ComesBackAt : State → Refusal → ℕ → Type 0
ComesBackAt current Repeats slot = current.slot ≡ slot
ComesBackAt current Memory slot = Unit {0}
ComesBackAt current e slot = ⊥

-- why a search stops at its start
abbrev pub BeginFails : Precision → Program → State → Refusal → ℕ → Type 0
BeginFails how p current Repeats slot = (current.slot ≡ slot) × ComesTo how p [] current
BeginFails how p current Memory slot = Unit {0}
BeginFails how p current e slot = ⊥

-- the step of a state is refused, or its successor is the current one, to which the path comes back
abbrev pub StepFails : Precision → Program → State → State → Refusal → ℕ → Type 0
StepFails how p s current (Step e) slot = (s.slot ≡ slot) × StopsIn p s (Step e)
StepFails how p s current Repeats slot = (current.slot ≡ slot) × StepsTo how p s current
StepFails how p s current Memory slot = Unit {0}
StepFails how p s current e slot = ⊥

-- the path comes back to the current state, for which the last visit waited
pub record BackAside (old : List Visit) (current : State) (slot : ℕ) : Type 0 where
  pub path : List Visit
  pub visit : Visit
  pub was : old ≡ path ++ visit ∷ []
  pub is_pending : visit.pending ≡ Some current
  pub slot_is : current.slot ≡ slot

-- why a search stops where it goes back to the last visit
abbrev pub ReturnFails : List Visit → State → Refusal → ℕ → Type 0
ReturnFails old current Repeats slot = BackAside old current slot
ReturnFails old current Memory slot = Unit {0}
ReturnFails old current e slot = ⊥

-- ---- what a listener knows
--
-- `tale`: the calls so far describe a path with these states, the last one first, and this state
-- arrived last

-- the states are those of the visits, the last one's first, and what is pending there is a
-- successor of them
abbrev pub AreVisited : Precision → Program → List Visit → List State → Type 0
AreVisited how p [] [] = Unit {0}
AreVisited how p [] (s ∷ states) = ⊥
AreVisited how p (visit ∷ visits) [] = ⊥
AreVisited how p (visit ∷ visits) (s ∷ states) =
    IfStepsTo how p s visit.pending × AreVisited how p visits states

-- the listener was called for all visits of the path
pub record HeardPath (how : Precision) (p : Program) (tale : List State → State → Type 0)
    (path : List Visit) : Type 0 where
  pub states : List State
  pub last : State
  pub visited : AreVisited how p (reverse path) states
  pub told : tale states last

-- the listener was called for all visits of the path, and then for the current state
pub record FollowsTo (how : Precision) (p : Program) (tale : List State → State → Type 0)
    (path : List Visit)
    (current : State) : Type 0 where
  pub states : List State
  pub visited : AreVisited how p (reverse path) states
  pub told : tale (current ∷ states) current

-- the call for the arrival at the current state is still to come
pub record IsToArrive (how : Precision) (p : Program) (tale : List State → State → Type 0)
    (path : List Visit)
    (current : State) : Type 0 where
  pub states : List State
  pub last : State
  pub visited : AreVisited how p (reverse path) states
  pub comes : ComesTo how p states current
  pub told : tale states last

-- the call for the number of the state after the path is still to come
pub record IsToFinish (how : Precision) (p : Program) (tale : List State → State → Type 0)
    (path : List Visit) : Type 0 where
  pub state : State
  pub states : List State
  pub last : State
  pub visited : AreVisited how p (reverse path) states
  pub told : tale (state ∷ states) last

-- what the listener knows before and after the call for a move
abbrev pub IsToTell : Precision → Program → (List State → State → Type 0) → List Visit → State
    → Move → Type 0
IsToTell how p tale path current (New stored) = IsToArrive how p tale path current
IsToTell how p tale path current (Covered k n) = IsToArrive how p tale path current
IsToTell how p tale path current (Finished n) = IsToFinish how p tale path

abbrev pub HearsMove : Precision → Program → (List State → State → Type 0) → List Visit → State
    → Move → Type 0
HearsMove how p tale path current (New stored) = FollowsTo how p tale path current
HearsMove how p tale path current (Covered k n) = HeardPath how p tale path
HearsMove how p tale path current (Finished n) = HeardPath how p tale path

-- the same for what comes next: a state is to be explored, or the search has ended
abbrev pub FollowsNext : Precision → Program → (List State → State → Type 0) → List Visit → State
    → NextMove
    → Type 0
FollowsNext how p tale path current (Explore stored) = FollowsTo how p tale path current
FollowsNext how p tale path current (Done n) = Unit {0}

-- before the call for a refusal
pub record IsToStop (p : Program) (tale : List State → State → Type 0) (e : Refusal)
    (slot : ℕ) : Type 0 where
  pub state : State
  pub before : List State
  pub slot_is : state.slot ≡ slot
  pub stops : StopsIn p state e
  pub told : tale (state ∷ before) state

pub record IsToComeBack (how : Precision) (p : Program) (tale : List State → State → Type 0)
    (current : State)
    (slot : ℕ) : Type 0 where
  pub states : List State
  pub last : State
  pub slot_is : current.slot ≡ slot
  pub comes : ComesTo how p states current
  pub told : tale states last

abbrev pub IsToRefuse : Precision → Program → (List State → State → Type 0) → State → Refusal → ℕ
    → Type 0
IsToRefuse how p tale current Memory slot = Unit {0}
IsToRefuse how p tale current Repeats slot = IsToComeBack how p tale current slot
IsToRefuse how p tale current e slot = IsToStop p tale e slot

-- control flow is refused before a search, and memory may run out at any time
abbrev pub IsOutsideSearch : Refusal → Type 0
IsOutsideSearch (Flow e) = Unit {0}
IsOutsideSearch Memory = Unit {0}
IsOutsideSearch e = ⊥

-- the refusal may be due to numbers that were forgotten
abbrev pub IsForNumbers : Refusal → Type 0
IsForNumbers (Step e) = Unit {0}
IsForNumbers Repeats = Unit {0}
IsForNumbers e = ⊥

-- a search that keeps certain numbers only ended with such a refusal
abbrev pub IsSearchedAgain : {S : Type 0} → Result ℕ (Halt S) → Option KeptNumbers → Type 0
IsSearchedAgain (Err (Refused e slot)) (Some kept) = IsForNumbers e
IsSearchedAgain ended kept = ⊥

-- in the end: the last state of the path is that in which the program is refused, if the search
-- found the refusal
abbrev pub EndsIn : Program → (List State → State → Type 0) → Refusal → ℕ → Type 0
EndsIn p tale (Flow e) slot = Unit {0}
EndsIn p tale Memory slot = Unit {0}
EndsIn p tale e slot = IsToStop p tale e slot

-- the same of the walks that the refusal is about
abbrev pub EndsAsPrecise : Program → (Precision → List State → State → Type 0) → Refusal → ℕ
    → Type 0
EndsAsPrecise p tales e slot = EndsIn p (tales (precision_of e)) e slot

-- ---- a path that is followed again

-- the listener was called for a path that ends in a state at the slot
pub record HasRetraced (tale : List State → State → Type 0) (slot : ℕ) : Type 0 where
  pub state : State
  pub before : List State
  pub slot_is : state.slot ≡ slot
  pub told : tale (state ∷ before) state
