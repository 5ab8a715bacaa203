-- The calls that a search makes to a listener, move by move.
use Rattle.explorer.proofs.Common.{◌≡◌, ◌∙◌, ℕ, suc, ◌+◌, ◌<◌, List, [], ◌∷◌, ◌++◌, Option, Some, None, ◌⊎◌, inl, inr, arith, refl, sym, ap, subst, reverse, reverse-append, Program, State, start, Precision, IsNoFiner, Forgets, Forgets-as, StepsTo-as, StepsTo, IfStepsTo, IsArrival, AfterMove, HasEnded, Refusal, Flow, Step, Repeats, TooLong, Memory, Search, Visit, Move, New, Covered, Finished, BeginsPath, AddsVisit, ShowsStep, GoesAside, ShowsReturn, ComesBackAt, BeginFails, StepFails, ReturnFails, AreVisited, HeardPath, FollowsTo, IsToArrive, IsToTell, HearsMove, IsToRefuse}
use Rattle.explorer.proofs.Paths.{IfStepsTo-as}

-- ---- visits and their states

AreVisited-none : (how : Precision) (p : Program) (path : List Visit) → path ≡ []
    → AreVisited how p (reverse path) []
AreVisited-none how p path none = subst (λ x. AreVisited how p (reverse x) []) (sym none) tt

AreVisited-push : (how : Precision) (p : Program) (path whole : List Visit) (visit : Visit)
    (s : State)
    (states : List State) → whole ≡ path ++ visit ∷ [] → IfStepsTo how p s visit.pending
    → AreVisited how p (reverse path) states
    → AreVisited how p (reverse whole) (s ∷ states)
AreVisited-push how p path whole visit s states is aside h =
    let reversed : reverse whole ≡ visit ∷ reverse path =
    ap reverse is ∙ reverse-append path (visit ∷ []) in
    subst (λ x. AreVisited how p x (s ∷ states)) (sym reversed) (aside, h)

-- the state of the last visit
record LastVisited (how : Precision) (p : Program) (path : List Visit) (visit : Visit)
    (states : List State) : Type 0 where
  state : State
  before : List State
  is : states ≡ state ∷ before
  aside : IfStepsTo how p state visit.pending
  visited : AreVisited how p (reverse path) before

last_visited : (how : Precision) (p : Program) (path : List Visit) (visit : Visit)
    (states : List State)
    → AreVisited how p (visit ∷ reverse path) states → LastVisited how p path visit states
last_visited how p path visit [] h = absurd h
last_visited how p path visit (s ∷ states) h =
    record { state = s; before = states; is = refl; aside = h.0; visited = h.1 }

AreVisited-pop : (how : Precision) (p : Program) (path whole : List Visit) (visit : Visit)
    (states : List State)
    → whole ≡ path ++ visit ∷ [] → AreVisited how p (reverse whole) states
    → LastVisited how p path visit states
AreVisited-pop how p path whole visit states is h =
    let reversed : reverse whole ≡ visit ∷ reverse path =
    ap reverse is ∙ reverse-append path (visit ∷ []) in
    last_visited how p path visit states (subst (λ x. AreVisited how p x states) reversed h)

-- ---- what the search has done

pub steps_by_arrival : (how : Precision) (p : Program) (s : State) (old new : List Visit)
    (current : State)
    (made : Move) → IsArrival made → AddsVisit how p s old new current
    → ShowsStep how p s old made new current
steps_by_arrival how p s old new current (New stored) h into = into
steps_by_arrival how p s old new current (Covered k n) h into = into
steps_by_arrival how p s old new current (Finished n) h into = absurd h

-- coarser walks show the same

AddsVisit-as : (to how : Precision) (p : Program) (s : State) (old new : List Visit)
    (current : State) → IsNoFiner to how → AddsVisit how p s old new current
    → AddsVisit to p s old new current
AddsVisit-as to how p s old new current fine h = record {
  visit = h.visit;
  pushed = h.pushed;
  steps = StepsTo-as to how p s current fine h.steps;
  aside = IfStepsTo-as to how p s h.visit.pending fine h.aside;
}

pub ShowsStep-as : (to how : Precision) (p : Program) (s : State) (old : List Visit) (made : Move)
    (new : List Visit) (current : State) → IsNoFiner to how → ShowsStep how p s old made new current
    → ShowsStep to p s old made new current
ShowsStep-as to how p s old (New stored) new current fine h =
    AddsVisit-as to how p s old new current fine h
ShowsStep-as to how p s old (Covered k n) new current fine h =
    AddsVisit-as to how p s old new current fine h
ShowsStep-as to how p s old (Finished n) new current fine h = h

pub StepFails-as : (to how : Precision) (p : Program) (s current : State) (e : Refusal) (slot : ℕ)
    → IsNoFiner to how → StepFails how p s current e slot → StepFails to p s current e slot
StepFails-as to how p s current (Flow e) slot fine h = absurd h
StepFails-as to how p s current (Step e) slot fine h = h
StepFails-as to how p s current Repeats slot fine h =
    (h.0, StepsTo-as to how p s current fine h.1)
StepFails-as to how p s current TooLong slot fine h = absurd h
StepFails-as to how p s current Memory slot fine h = tt

pub BeginsPath-as : (to how : Precision) (p : Program) (made : Move) (path : List Visit)
    (current : State) → IsNoFiner to how → BeginsPath how p made path current
    → BeginsPath to p made path current
BeginsPath-as to how p (New stored) path current fine h =
    (h.0, Forgets-as to how p start current fine h.1)
BeginsPath-as to how p (Covered k n) path current fine h =
    (h.0, Forgets-as to how p start current fine h.1)
BeginsPath-as to how p (Finished n) path current fine h = absurd h

pub BeginFails-as : (to how : Precision) (p : Program) (current : State) (e : Refusal) (slot : ℕ)
    → IsNoFiner to how → BeginFails how p current e slot → BeginFails to p current e slot
BeginFails-as to how p current (Flow e) slot fine h = absurd h
BeginFails-as to how p current (Step e) slot fine h = absurd h
BeginFails-as to how p current Repeats slot fine h =
    (h.0, Forgets-as to how p start current fine h.1)
BeginFails-as to how p current TooLong slot fine h = absurd h
BeginFails-as to how p current Memory slot fine h = tt

-- a search stops at its start only if the path comes back to it, or if memory runs out
pub begin_fails : (how : Precision) (p : Program) (current now : State) (e : Refusal) (slot : ℕ)
    → now ≡ current
    → Forgets how p start current → ComesBackAt current e slot → BeginFails how p now e slot
begin_fails how p current now (Flow e) slot same begins h = absurd h
begin_fails how p current now (Step e) slot same begins h = absurd h
begin_fails how p current now Repeats slot same begins h =
    (ap (λ (x : State). x.slot) same ∙ h, subst (Forgets how p start) (sym same) begins)
begin_fails how p current now TooLong slot same begins h = absurd h
begin_fails how p current now Memory slot same begins h = tt

pub step_fails : (how : Precision) (p : Program) (s current now : State) (e : Refusal) (slot : ℕ)
    → now ≡ current
    → StepsTo how p s current → ComesBackAt current e slot → StepFails how p s now e slot
step_fails how p s current now (Flow e) slot same steps h = absurd h
step_fails how p s current now (Step e) slot same steps h = absurd h
step_fails how p s current now Repeats slot same steps h =
    (ap (λ (x : State). x.slot) same ∙ h, subst (StepsTo how p s) (sym same) steps)
step_fails how p s current now TooLong slot same steps h = absurd h
step_fails how p s current now Memory slot same steps h = tt

-- ---- before a listener is called for a move

pub told_begin : (how : Precision) (p : Program) (tale : List State → State → Type 0)
    (path : List Visit)
    (current last : State) (made : Move) → BeginsPath how p made path current → tale [] last
    → IsToTell how p tale path current made
told_begin how p tale path current last (New stored) h told =
    record {
      states = [];
      last = last;
      visited = AreVisited-none how p path h.0;
      comes = h.1;
      told = told;
    }
told_begin how p tale path current last (Covered k n) h told =
    record {
      states = [];
      last = last;
      visited = AreVisited-none how p path h.0;
      comes = h.1;
      told = told;
    }
told_begin how p tale path current last (Finished n) h told = absurd h

steps_into : (how : Precision) (p : Program) (tale : List State → State → Type 0)
    (old new : List Visit)
    (s current : State) → FollowsTo how p tale old s → AddsVisit how p s old new current
    → IsToArrive how p tale new current
steps_into how p tale old new s current h into =
    record {
      states = s
          ∷ h.states;
      last = s;
      visited = AreVisited-push how p old new into.visit s h.states into.pushed into.aside
          h.visited;
      comes = into.steps;
      told = h.told;
    }

pub told_step : (how : Precision) (p : Program) (tale : List State → State → Type 0)
    (old new : List Visit)
    (s current : State) (made : Move) → FollowsTo how p tale old s
    → ShowsStep how p s old made new current
    → IsToTell how p tale new current made
told_step how p tale old new s current (New stored) h step = steps_into how p tale old new s current
    h step
told_step how p tale old new s current (Covered k n) h step = steps_into how p tale old new s
    current h step
told_step how p tale old new s current (Finished n) h step =
    record {
      state = s;
      states = h.states;
      last = s;
      visited = subst
          (λ x. AreVisited how p (reverse x) h.states) (sym step) h.visited;
      told = h.told;
    }

goes_aside : (how : Precision) (p : Program) (tale : List State → State → Type 0)
    (old new : List Visit)
    (current : State) → HeardPath how p tale old → GoesAside old new current
    → IsToArrive how p tale new current
goes_aside how p tale old new current h aside =
    let popped = AreVisited-pop how p aside.path old aside.visit h.states aside.was h.visited in
    let none : IfStepsTo how p popped.state aside.rest.pending =
    subst (IfStepsTo how p popped.state) (sym aside.nothing) tt in
    record {
      states = popped.state ∷ popped.before;
      last = h.last;
      visited =
          AreVisited-push how p aside.path new aside.rest popped.state popped.before aside.pushed
          none
          popped.visited;
      comes = subst (IfStepsTo how p popped.state) aside.is_pending popped.aside;
      told = subst (λ x. tale x h.last) popped.is h.told;
    }

pub told_back : (how : Precision) (p : Program) (tale : List State → State → Type 0)
    (old new : List Visit)
    (current : State) (made : Move) → HeardPath how p tale old → ShowsReturn old made new current
    → IsToTell how p tale new current made
told_back how p tale old new current (New stored) h back = goes_aside how p tale old new current h
    back
told_back how p tale old new current (Covered k n) h back = goes_aside how p tale old new current h
    back
told_back how p tale old new current (Finished n) h back =
    let popped = AreVisited-pop how p new old back.0 h.states back.1 h.visited in
    record {
      state = popped.state;
      states = popped.before;
      last = h.last;
      visited = popped.visited;
      told = subst (λ x. tale x h.last) popped.is h.told;
    }

-- ---- after the call for a move that ends a path

abbrev pub EndsWith : Move → ℕ → Type 0
EndsWith made n = ((k : ℕ) × (made ≡ Covered k n)) ⊎ (made ≡ Finished n)

pub has_ended : (p : Program) (search : Search) (made : Move) (n m : ℕ) → EndsWith made n → m ≡ n
    → AfterMove p search made → HasEnded p search m
has_ended p search made n m (inl h) is moves =
    subst (HasEnded p search) (sym is) (subst (AfterMove p search) h.1 moves)
has_ended p search made n m (inr h) is moves =
    subst (HasEnded p search) (sym is) (subst (AfterMove p search) h moves)

pub follows_end : (how : Precision) (p : Program) (tale : List State → State → Type 0)
    (path : List Visit)
    (current : State) (made : Move) (n : ℕ) → EndsWith made n
    → HearsMove how p tale path current made
    → HeardPath how p tale path
follows_end how p tale path current made n (inl h) told = subst
    (HearsMove how p tale path current) h.1 told
follows_end how p tale path current made n (inr h) told = subst
    (HearsMove how p tale path current) h told

-- ---- before the call for a refusal

pub refused_begin : (how : Precision) (p : Program) (tale : List State → State → Type 0)
    (current last : State)
    (e : Refusal) (slot : ℕ) → BeginFails how p current e slot → tale [] last
    → IsToRefuse how p tale current e slot
refused_begin how p tale current last (Flow e) slot h told = absurd h
refused_begin how p tale current last (Step e) slot h told = absurd h
refused_begin how p tale current last Repeats slot h told =
    record { states = []; last = last; slot_is = h.0; comes = h.1; told = told }
refused_begin how p tale current last TooLong slot h told = absurd h
refused_begin how p tale current last Memory slot h told = tt

pub refused_step : (how : Precision) (p : Program) (tale : List State → State → Type 0)
    (old : List Visit)
    (s current : State) (e : Refusal) (slot : ℕ) → FollowsTo how p tale old s
    → StepFails how p s current e slot → IsToRefuse how p tale current e slot
refused_step how p tale old s current (Flow e) slot h fails = absurd fails
refused_step how p tale old s current (Step e) slot h fails =
    record { state = s; before = h.states; slot_is = fails.0; stops = fails.1; told = h.told }
refused_step how p tale old s current Repeats slot h fails =
    record { states = s ∷ h.states; last = s; slot_is = fails.0; comes = fails.1; told = h.told }
refused_step how p tale old s current TooLong slot h fails = absurd fails
refused_step how p tale old s current Memory slot h fails = tt

pub refused_back : (how : Precision) (p : Program) (tale : List State → State → Type 0)
    (old : List Visit)
    (current : State) (e : Refusal) (slot : ℕ) → HeardPath how p tale old
    → ReturnFails old current e slot → IsToRefuse how p tale current e slot
refused_back how p tale old current (Flow e) slot h fails = absurd fails
refused_back how p tale old current (Step e) slot h fails = absurd fails
refused_back how p tale old current Repeats slot h fails =
    let popped = AreVisited-pop how p fails.path old fails.visit h.states fails.was h.visited in
    record {
      states = popped.state
          ∷ popped.before;
      last = h.last;
      slot_is = fails.slot_is;
      comes = subst
          (IfStepsTo how p popped.state) fails.is_pending popped.aside;
      told = subst
          (λ x. tale x h.last) popped.is h.told;
    }
refused_back how p tale old current TooLong slot h fails = absurd fails
refused_back how p tale old current Memory slot h fails = tt

-- ---- what is left to do along a path

abbrev one_if_some : Option State → ℕ
one_if_some None = 0
one_if_some (Some s) = 1

-- a visit ends, and before that goes on with what is pending
abbrev pub weight : List Visit → ℕ
weight [] = 0
weight (visit ∷ path) = suc (one_if_some visit.pending + weight path)

weight-push : (path : List Visit) (visit : Visit)
    → weight (path ++ visit ∷ []) ≡ weight path + suc (one_if_some visit.pending)
weight-push [] visit = omega arith
weight-push (first ∷ path) visit = omega (arith, weight-push path visit)

aside_less : (old new : List Visit) (current : State) → GoesAside old new current
    → weight new < weight old
aside_less old new current h =
    let was : weight old ≡ weight h.path + suc (one_if_some h.visit.pending) =
    ap weight h.was ∙ weight-push h.path h.visit in
    let is : weight new ≡ weight h.path + suc (one_if_some h.rest.pending) =
    ap weight h.pushed ∙ weight-push h.path h.rest in
    let one : one_if_some h.visit.pending ≡ 1 = ap one_if_some h.is_pending in
    let none : one_if_some h.rest.pending ≡ 0 = ap one_if_some h.nothing in
    omega (arith, was, is, one, none)

pub returns_less : (old new : List Visit) (current : State) (made : Move)
    → ShowsReturn old made new current → weight new < weight old
returns_less old new current (New stored) h = aside_less old new current h
returns_less old new current (Covered k n) h = aside_less old new current h
returns_less old new current (Finished n) h = omega (arith, ap weight h.1 ∙ weight-push new h.0)
