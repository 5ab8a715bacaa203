-- What the path says of walks from the start.
use Rattle.explorer.proofs.Common.{◌≡◌, ◌+◌, ◌∷◌, [], ℕ, zero, suc, Some, None, Option, List, length, map, arith, refl, sym, ap, ◌∙◌, subst, inl, inr, ◌⊎◌, slice_get, IsSome, slice_get-map, Insn, Program, fetch, State, start, IsJoin, StepsToWays, Refusal, Flow, Step, Repeats, TooLong, Memory, StoredState, Visit, IsAmong, StepsTo, HasSteps, WalksTo, Precision, Coarse, Forgets, AreForgotten, StepsInto, StopsAt, StoredAt, Path, RefusesArrival, zeros_from, with_first, indexes_of, OnPath}
use Rattle.std.specs.Option.{option_map}
use Rattle.transfer.specs.declared.Ways.{Ways}

-- ---- steps

pub steps_by : {how : Precision} (p q : Program) (s a b n t : State) (w v : Ways) → p ≡ q
    → ((i : Insn) → fetch q s.slot ≡ Some i → StepsToWays q s i w a b) → (i : Insn)
    → fetch p s.slot ≡ Some i
    → w ≡ v → IsAmong v a b n → Forgets how p n t → StepsTo how p s t
steps_by p q s a b n t w v same makes i here is among forgets =
    let there : fetch q s.slot ≡ Some i = subst (λ x. fetch x s.slot ≡ Some i) same here in
    record {
      insn = i;
      here = here;
      taken = w;
      first = a;
      other = b;
      makes = subst (λ x. StepsToWays x s i w a b) (sym same) (makes i there);
      next = n;
      among = subst (λ x. IsAmong x a b n) (sym is) among;
      forgets = forgets;
    }

-- an instruction that there is
pub some_insn : (o : Option Insn) → IsSome o → (i : Insn) × (o ≡ Some i)
some_insn None h = absurd (cc h)
some_insn (Some i) h = (i, refl)

-- a step that is taken again
pub steps_again : (p q : Program) (s a b n t : State) (w v : Ways) → IsSome (fetch p s.slot)
    → ((i : Insn) → fetch p s.slot ≡ Some i → StepsToWays p s i w a b) → w ≡ v
    → IsAmong v a b n → q ≡ p → Forgets Coarse q n t → StepsTo Coarse p s t
steps_again p q s a b n t w v begins makes is among same forgets =
    let (i, here) = some_insn (fetch p s.slot) begins in
    steps_by p p s a b n t w v refl makes i here is among
    (subst (λ (x : Program). Forgets Coarse x n t) same forgets)

pub into_by : (p q : Program) (s a b first other : State) (w v : Ways) → p ≡ q
    → ((i : Insn) → fetch q s.slot ≡ Some i → StepsToWays q s i w a b) → (i : Insn)
    → fetch p s.slot ≡ Some i
    → w ≡ v → AreForgotten p v a b first other → StepsInto p s v first other
into_by p q s a b first other w v same makes i here is forgets =
    let there : fetch q s.slot ≡ Some i = subst (λ x. fetch x s.slot ≡ Some i) same here in
    let made = subst (λ x. StepsToWays x s i w a b) (sym same) (makes i there) in
    record {
      insn = i;
      here = here;
      next = a;
      aside = b;
      makes = subst
          (λ x. StepsToWays p s i x a b) is made;
      forgets = forgets;
    }

-- ---- the path is a walk

-- a walk of no steps is at the state in which paths begin
pub WalksTo-start : {how : Precision} (p : Program) (first : State) → Forgets how p start first
    → WalksTo how p 0 first
unfolding HasSteps
WalksTo-start p first begins = record { first = first; starts = begins; leads = refl }

pub Path-leads : (how : Precision) (p : Program) (m : ℕ) (states : List StoredState)
    (path : List Visit) (a b : State)
    → Path how p m states a path b → HasSteps how p (length path) a b
unfolding Path HasSteps
Path-leads how p m states [] a b h = h
Path-leads how p m states (visit ∷ path) a b h =
    (h.0, h.1.steps, Path-leads how p m states path h.0 b h.2)

-- and comes from the start
pub Path-walks : {how : Precision} (p : Program) (m : ℕ) (states : List StoredState)
    (path : List Visit) (a b : State)
    → Forgets how p start a → Path how p m states a path b → WalksTo how p (length path) b
Path-walks {how = how} p m states path a b begins h =
    record { first = a; starts = begins; leads = Path-leads how p m states path a b h }

-- ---- indexes

abbrev IsIn : ℕ → List ℕ → Type 0
IsIn k [] = ⊥
IsIn k (x ∷ xs) = (k ≡ x) ⊎ IsIn k xs

zeros_from-in : (k : ℕ) (ns : List ℕ) (i j : ℕ) → j ≡ k + i → slice_get ns i ≡ Some 0
    → IsIn j (zeros_from k ns)
zeros_from-in k [] i j at e = absurd (cc)
zeros_from-in k (zero ∷ ns) zero j at e = inl (omega (arith, at))
zeros_from-in k (zero ∷ ns) (suc i) j at e =
    inr (zeros_from-in (suc k) ns i j (omega (arith, at)) e)
zeros_from-in k (suc n ∷ ns) zero j at e = absurd (cc)
zeros_from-in k (suc n ∷ ns) (suc i) j at e = zeros_from-in (suc k) ns i j (omega (arith, at)) e

in_first : (o : Option ℕ) (k : ℕ) (xs : List ℕ) → IsIn k (with_first o xs)
    → (o ≡ Some k) ⊎ IsIn k xs
in_first None k xs h = inr h
in_first (Some i) k xs (inl e) = inl (ap Some (sym e))
in_first (Some i) k xs (inr h) = inr h

-- two states that are stored at one index are one
same_stored : (states : List StoredState) (k n : ℕ) (s t : State) → StoredAt states (Some k) s
    → slice_get states k ≡ Some (record { state = t; number = n }) → t ≡ s
same_stored states k n s t at e =
    let q : ◌≡◌ {A = StoredState} (record { state = t; number = n })
    (record { state = s; number = at.0 }) =
    cc (e, at.1) in
    ap (λ (x : StoredState). x.state) q

-- a walk goes through the state
record Through (how : Precision) (p : Program) (a t b : State) : Type 0 where
  before : ℕ
  between : ℕ
  leads : HasSteps how p before a t
  leads_on : HasSteps how p (suc between) t b

starts_here : {how : Precision} (p : Program) (n : ℕ) (a t b : State) → t ≡ a
    → HasSteps how p (suc n) a b
    → Through how p a t b
unfolding HasSteps
starts_here {how = how} p n a t b e h =
    record {
      before = 0;
      between = n;
      leads = e;
      leads_on = subst (λ x. HasSteps how p (suc n) x b)
          (sym e) h;
    }

one_more : {how : Precision} (p : Program) (a c t b : State) → StepsTo how p a c
    → Through how p c t b → Through how p a t b
unfolding HasSteps
one_more p a c t b step h =
    record {
      before = suc h.before;
      between = h.between;
      leads = (c, step, h.leads);
      leads_on = h.leads_on;
    }

through : {how : Precision} (p : Program) (m : ℕ) (states : List StoredState) (path : List Visit)
    (a b : State)
    (k : ℕ) (t : State) → Path how p m states a path b → IsIn k (indexes_of path)
    → slice_get states k ≡ Some (record { state = t; number = 0 }) → Through how p a t b
unfolding Path HasSteps
through p m states [] a b k t h inside e = absurd inside
through {how = how} p m states (visit ∷ path) a b k t h inside e =
    let child = h.0 in
    let waiting = h.1 in
    elim (in_first visit.stored k (indexes_of path) inside) [
      | inl is ↦
          starts_here p (length path) a t b
          (same_stored states k 0 a t (subst (λ x. StoredAt states x a) is waiting.stored) e)
          (child, waiting.steps, Path-leads how p m states path child b h.2)
      | inr rest ↦
          one_more p a child t b waiting.steps (through p m states path child b k t h.2 rest e)
    ]

-- ---- why a path does not go on

unfinished_in : (states : List StoredState) (path : List Visit) (k : ℕ) (t : State)
    → OnPath states path None → slice_get states k ≡ Some (record { state = t; number = 0 })
    → IsIn k (indexes_of path)
unfolding OnPath
unfinished_in states path k t on e =
    let f : StoredState → ℕ = λ x. x.number in
    let found : slice_get (map f states) k ≡ Some 0 =
    slice_get-map f states k ∙ ap (option_map f) e in
    subst (IsIn k) on (zeros_from-in 0 (map f states) k k (omega arith) found)

pub arrival_refused : {how : Precision} (p : Program) (m : ℕ) (states : List StoredState)
    (path : List Visit)
    (a b : State) (e : Refusal) (slot : ℕ) → Forgets how p start a → Path how p m states a path b
    → OnPath states path None
    → RefusesArrival p states b e slot → StopsAt how p e slot
arrival_refused p m states path a b (Flow e) slot begins h on refuses = absurd refuses
arrival_refused p m states path a b (Step e) slot begins h on refuses = absurd refuses
arrival_refused p m states path a b Repeats slot begins h on refuses =
    let repeated = refuses.1 in
    let walk =
    through p m states path a b repeated.index repeated.other h
    (unfinished_in states path repeated.index repeated.other on repeated.stored)
    repeated.stored in
    record {
      join = subst (λ n. IsJoin p n) (sym refuses.2) refuses.0;
      first = repeated.other;
      again = b;
      before = walk.before;
      between = walk.between;
      walk = record { first = a; starts = begins; leads = walk.leads };
      leads_back = walk.leads_on;
      first_slot = repeated.same_slot ∙ sym refuses.2;
      again_slot = sym refuses.2;
      covers = repeated.covers p;
      covered = repeated.covered p;
    }
arrival_refused p m states path a b TooLong slot begins h on refuses = absurd refuses
arrival_refused p m states path a b Memory slot begins h on refuses = refuses
