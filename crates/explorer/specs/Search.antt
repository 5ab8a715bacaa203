-- What a search knows: the numbers of the stored states, and the path.
use Rattle.std.specs.Prelude.{◌≡◌, ℕ, zero, suc, ◌+◌, ◌<◌, ◌≤◌, ◌⊎◌, max, List, [], ◌∷◌, ◌++◌, Option, Some, None, map, length}
use Rattle.std.specs.List.{All}
use Rattle.isa_model.specs.Code.Instructions.{Program}
use Rattle.isa_model.specs.Machine.States as Machine
use Rattle.isa_model.specs.Machine.Steps.{step}
use Rattle.isa_model.specs.Running.Ends.{Ends, After}
use Rattle.isa_model.specs.Machine.MachineStates.{IsClock}
use Rattle.stack_state.specs.declared.states.State.{State}
use Rattle.stack_state.specs.Meaning.{Means, Within}
use Rattle.stack_state.specs.Starts.{start}
use Rattle.control_flow.specs.Graph.{BeginsInsn}
use Rattle.control_flow.specs.Flows.{IsJoin}
use Rattle.transfer.specs.Following.{returns_of}
use Rattle.isa_model.specs.declared.limits.TheConstants.{MAX_EXPLORED}
use Rattle.walks.specs.declared.refusals.Refusal.{Refusal}
use Rattle.walks.specs.declared.refusals.Refusal.TheVariants.{Repeats, Memory}
use Rattle.explorer.specs.declared.stored_states.StoredState.{StoredState}
use Rattle.explorer.specs.declared.trail.Visit.{Visit}
use Rattle.explorer.specs.declared.search.Search.{Search}
use Rattle.explorer.specs.declared.moves.Move.{Move}
use Rattle.explorer.specs.declared.moves.Move.TheVariants.{New, Covered, Finished}
use Rattle.explorer.specs.declared.moves.NextMove.{NextMove}
use Rattle.explorer.specs.declared.moves.NextMove.TheVariants.{Explore, Done}
use Rattle.control_flow.specs.declared.kept_numbers.KeptNumbers.{KeptNumbers}
use Rattle.walks.specs.Forgetting.{Precision, Exact, Coarse, IsNoFiner, Forgets}
use Rattle.walks.specs.Walks.{StepsTo, WalksTo}
use Rattle.walks.specs.Counts.{HasNumber, Takes}
use Rattle.explorer.specs.StoredStates.{IsCovered, IsRepeated, StoredAt}

-- ---- arriving at a state

abbrev pub stored_too : List StoredState → State → List StoredState
stored_too states s = states ++ record { state = s; number = 0 } ∷ []

-- a state at a join has the number of one that covers it, or is stored; or it is new, as at other
-- slots
abbrev pub Arrives : Program → List StoredState → State → Move → List StoredState → Type 0
Arrives p old s (Covered k n) new = IsJoin p s.slot × IsCovered old k s n × (new ≡ old)
Arrives p old s (New None) new = new ≡ old
Arrives p old s (New (Some k)) new = IsJoin p s.slot × (k ≡ length old) × (new ≡ stored_too old s)
Arrives p old s (Finished n) new = ⊥

-- the move is an arrival at a state
abbrev pub IsArrival : Move → Type 0
IsArrival (New stored) = Unit {0}
IsArrival (Covered k n) = Unit {0}
IsArrival (Finished n) = ⊥

-- why a path does not go on from a state at which it arrives, and the slot
abbrev pub RefusesArrival : Program → List StoredState → State → Refusal → ℕ → Type 0
RefusesArrival p states s Repeats slot = IsJoin p s.slot × IsRepeated states s × (slot ≡ s.slot)
RefusesArrival p states s Memory slot = slot ≡ 0
RefusesArrival p states s e slot = ⊥

-- ---- what is known of the stored states and of the path

-- runs from members of the state end within n steps, and n is the number of the state
pub record Settles (p : Program) (s : State) (n : ℕ) : Type 0 where
  pub within : Within p s n
  pub number : HasNumber p s n

-- runs from a stored state with a number end within that number, no number is above the count of
-- finished instructions, and a walk from the start reaches the state
abbrev pub IsSettled : Program → ℕ → StoredState → Type 0
IsSettled p finished e =
    0 < e.number → Settles p e.state e.number × (e.number ≤ finished)
    × ((k : ℕ) × WalksTo Coarse p k e.state)

unfoldable pub AllSettled : Program → ℕ → List StoredState → Type 0
AllSettled p finished states = All (IsSettled p finished) states

-- an instruction begins at the state's slot, and at each slot to which a live call frame returns
pub record IsAtInsns (p : Program) (s : State) : Type 0 where
  pub insn_begins : BeginsInsn p s.slot
  pub returns : All (BeginsInsn p) (returns_of s)

abbrev pub IfReady : Program → Option State → Type 0
IfReady p None = Unit {0}
IfReady p (Some s) = IsAtInsns p s

abbrev pub IfStepsTo : Precision → Program → State → Option State → Type 0
IfStepsTo how p a None = Unit {0}
IfStepsTo how p a (Some b) = StepsTo how p a b

abbrev pub MeantBy : Program → Option State → Machine.State → Type 0
MeantBy p None w = ⊥
MeantBy p (Some s) w = Means p s w

-- the step of each machine state that s means ends the run, or goes to the child, to what is
-- pending, or to what ends in time
unfoldable pub StepsAwaited : Program → Visit → State → State → Type 0
StepsAwaited p visit s child = (clock : ℕ → ℕ) → IsClock clock → (w : Machine.State) → Means p s w
    → After (λ v. Means p child v ⊎ (MeantBy p visit.pending v ⊎ Ends p clock v visit.best))
    (step p clock w)

-- the number that a state has once what is pending has one
abbrev pub NumberFollowsBoth : Program → Option State → State → ℕ → Type 0
NumberFollowsBoth p None s best = HasNumber p s (best + 1)
NumberFollowsBoth p (Some other) s best =
    (k : ℕ) → HasNumber p other k → HasNumber p s (max best k + 1)

-- the number that a state has once its child and what is pending have one
unfoldable pub NumberFollows : Program → Visit → State → State → Type 0
NumberFollows p visit s child =
    (n : ℕ) → HasNumber p child n → NumberFollowsBoth p visit.pending s (max visit.best n)

-- a visit of a state that waits for another one
pub record Waiting (how : Precision) (p : Program) (finished : ℕ) (states : List StoredState)
    (visit : Visit)
    (s child : State) : Type 0 where
  pub waits : StepsAwaited p visit s child
  pub awaits : NumberFollows p visit s child
  pub steps : StepsTo how p s child
  pub steps_aside : IfStepsTo how p s visit.pending
  pub best : visit.best ≤ finished
  pub stored : StoredAt states visit.stored s
  pub ready : IfReady p visit.pending

-- the path goes from one state to another, with a visit for each instruction
unfoldable pub Path : Precision → Program → ℕ → List StoredState → State → List Visit → State
    → Type 0
Path how p finished states from [] to = to ≡ from
Path how p finished states from (visit ∷ path) to =
    (child : State) × Waiting how p finished states visit from child
    × Path how p finished states child path to

-- ---- how many instructions were explored

-- n instructions are explored from the state, those of its pending state included
abbrev pub TakesBoth : Program → Option State → State → ℕ → Type 0
TakesBoth p None s n = Takes p s n
TakesBoth p (Some other) s n = (y : ℕ) → Takes p other y → Takes p s (n + y)

-- the same with those of the child; `own` were explored already
unfoldable pub Spends : Program → Visit → State → State → ℕ → Type 0
Spends p visit s child own = (x : ℕ) → Takes p child x → TakesBoth p visit.pending s (own + x)

-- the path goes from one state to another, and n instructions were explored before the last one
unfoldable pub CountsTo : Program → State → List Visit → State → ℕ → Type 0
CountsTo p from [] to n = (to ≡ from) × (n ≡ 0)
CountsTo p from (visit ∷ path) to n =
    (child : State) × (own : ℕ) × (rest : ℕ) × Spends p visit from child own
    × CountsTo p child path to rest × (n ≡ own + rest)

-- the path goes to a state that is explored in full, and `total` instructions were explored
pub record HasSpent (p : Program) (from : State) (path : List Visit) (total : ℕ) : Type 0 where
  pub state : State
  pub before : ℕ
  pub own : ℕ
  pub counts : CountsTo p from path state before
  pub takes : Takes p state own
  pub total_is : before + own ≡ total

-- ---- the stored states without a number

-- the indexes of zeros in a list whose first index is k
abbrev pub zeros_from : ℕ → List ℕ → List ℕ
zeros_from k [] = []
zeros_from k (zero ∷ numbers) = k ∷ zeros_from (suc k) numbers
zeros_from k (suc n ∷ numbers) = zeros_from (suc k) numbers

-- the indexes of the states without a number, in the order in which they were stored
abbrev pub unfinished : List StoredState → List ℕ
unfinished states = zeros_from 0 (map (λ e. e.number) states)

-- the indexes with one in front of them, or after them, if there is one
abbrev pub with_first : Option ℕ → List ℕ → List ℕ
with_first None indexes = indexes
with_first (Some k) indexes = k ∷ indexes

abbrev pub with_last : List ℕ → Option ℕ → List ℕ
with_last indexes None = indexes
with_last indexes (Some k) = indexes ++ k ∷ []

-- the indexes at which the states of the path are stored
abbrev pub indexes_of : List Visit → List ℕ
indexes_of [] = []
indexes_of (visit ∷ path) = with_first visit.stored (indexes_of path)

-- the stored states without a number are those of the path and the one after it, in their order
unfoldable pub OnPath : List StoredState → List Visit → Option ℕ → Type 0
OnPath states path stored = unfinished states ≡ with_last (indexes_of path) stored

-- ---- the search

-- the walks of a search are exact until it keeps certain numbers only
abbrev pub precision_in : Option KeptNumbers → Precision
precision_in None = Exact
precision_in (Some kept) = Coarse

-- the fact holds of the walks of a search, and of coarser ones
abbrev pub InEach : Option KeptNumbers → (Precision → Type 0) → Type 0
InEach kept fact = (how : Precision) → IsNoFiner how (precision_in kept) → fact how

-- the search is at the start, and nothing was explored
pub record IsNew (search : Search) : Type 0 where
  pub current : search.current ≡ start
  pub states : search.states.states.items ≡ []
  pub path : search.path.items ≡ []
  pub finished : search.finished ≡ 0
  pub kept : search.kept ≡ None

-- the search is at this state, and its path goes there from the start
pub record IsAt (p : Program) (search : Search) (s : State) : Type 0 where
  pub fine : AllSettled p search.finished search.states.states.items
  pub first : State
  pub begins : Forgets (precision_in search.kept) p start first
  pub path : Path (precision_in search.kept) p search.finished search.states.states.items first
      search.path.items s

-- the search is at a state that ends within this number
pub record HasEnded (p : Program) (search : Search) (n : ℕ) : Type 0 where
  pub state : State
  pub at : IsAt p search state
  pub on_path : OnPath search.states.states.items search.path.items None
  pub settled : Settles p state n
  pub spent : HasSpent p at.first search.path.items (search.finished + length search.path.items)
  pub some : 0 < n
  pub most : n ≤ search.finished

-- the search is at its current state, which is stored with this index
pub record Explores (p : Program) (search : Search) (stored : Option ℕ) : Type 0 where
  pub at : IsAt p search search.current
  pub on_path : OnPath search.states.states.items search.path.items stored
  pub stored_at : StoredAt search.states.states.items stored search.current
  pub counts : CountsTo p at.first search.path.items search.current
      (search.finished + length search.path.items)
  pub ready : IsAtInsns p search.current

-- the path comes to the current state, which is not explored yet
pub record Comes (p : Program) (search : Search) : Type 0 where
  pub at : IsAt p search search.current
  pub on_path : OnPath search.states.states.items search.path.items None
  pub counts : CountsTo p at.first search.path.items search.current
      (search.finished + length search.path.items)
  pub ready : IsAtInsns p search.current

-- after a move the current state is to be explored, or the path has reached a state with a number
abbrev pub AfterMove : Program → Search → Move → Type 0
AfterMove p search (New stored) = Explores p search stored
AfterMove p search (Covered k n) = HasEnded p search n
AfterMove p search (Finished n) = HasEnded p search n

-- the limit of explored instructions is reached, and the next one is at this slot
pub record IsTooLong (search : Search) (slot : ℕ) : Type 0 where
  pub explored : search.finished + length search.path.items ≡ MAX_EXPLORED
  pub next : slot ≡ search.current.slot

abbrev pub IsNext : Program → Search → NextMove → Type 0
IsNext p search (Explore stored) = Explores p search stored
IsNext p search (Done n) = Settles p start n × (0 < n) × (n ≤ search.finished)

-- the same; or the path is empty, and the start, which has this number, is explored in full
abbrev pub AfterMoveOrEnd : Program → Search → ℕ → Option Move → Type 0
AfterMoveOrEnd p search n None = IsNext p search (Done n)
AfterMoveOrEnd p search n (Some made) = AfterMove p search made
