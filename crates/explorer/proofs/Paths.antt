-- Paths, visit by visit.
use Rattle.explorer.proofs.Common.{◌≡◌, ◌≤◌, ◌+◌, ◌∷◌, ◌++◌, [], ℕ, Some, None, Option, List, length, max, arith, refl, sym, add-one, subst, inl, inr, ◌⊎◌, Program, State, Means, Within, StoredState, Visit, Precision, IsNoFiner, StepsTo-as, StepsInto, HasNumber, LeadsToOne, LeadsToTwo, MeantBy, StepsAwaited, NumberFollowsBoth, NumberFollows, Waiting, Path, IfStepsTo}
use Rattle.isa_model.specs.Machine.Steps.{step}
use Rattle.isa_model.specs.Running.Ends.{Ends}
use Rattle.isa_model.proofs.EndsLaws.{After-weaker, Ends-more}
use Rattle.transfer.specs.declared.Ways.TheVariants as ways
use Rattle.transfer.specs.Leading.{LeadsTo}
use Rattle.explorer.proofs.StoredStatesLaws.{KeepsStates, KeepsStates-at}

-- ---- paths

pub IfStepsTo-as : (to how : Precision) (p : Program) (s : State) (o : Option State)
    → IsNoFiner to how → IfStepsTo how p s o → IfStepsTo to p s o
IfStepsTo-as to how p s None fine h = tt
IfStepsTo-as to how p s (Some b) fine h = StepsTo-as to how p s b fine h

Waiting-more : {how : Precision} (p : Program) (m n : ℕ) (old new : List StoredState)
    (visit : Visit)
    (s child : State) → m ≤ n → KeepsStates old new → Waiting how p m old visit s child
    → Waiting how p n new visit s child
Waiting-more p m n old new visit s child le kept h =
    record {
      waits = h.waits;
      awaits = h.awaits;
      steps = h.steps;
      steps_aside = h.steps_aside;
      best = omega (arith, h.best);
      stored = KeepsStates-at old new visit.stored s kept h.stored;
      ready = h.ready;
    }

pub Path-more : (how : Precision) (p : Program) (m n : ℕ) (old new : List StoredState) → m ≤ n
    → KeepsStates old new
    → (path : List Visit) (a b : State) → Path how p m old a path b → Path how p n new a path b
unfolding Path
Path-more how p m n old new le kept [] a b h = h
Path-more how p m n old new le kept (visit ∷ path) a b h = (
  h.0,
  Waiting-more p m n old new visit a h.0 le kept h.1,
  Path-more how p m n old new le kept path
      h.0 b h.2,
)

pub Path-push : {how : Precision} (p : Program) (m : ℕ) (states : List StoredState)
    (path : List Visit)
    (visit : Visit) (a s child : State) → Path how p m states a path s
    → Waiting how p m states visit s child → Path how p m states a (path ++ visit ∷ []) child
unfolding Path
Path-push {how = how} p m states [] visit a s child h waiting =
    (child, subst (λ x. Waiting how p m states visit x child) h waiting, refl)
Path-push p m states (first ∷ path) visit a s child h waiting =
    (h.0, h.1, Path-push p m states path visit h.0 s child h.2 waiting)

-- a path of exact walks is one of coarse walks

Waiting-as : (to how : Precision) (p : Program) (m : ℕ) (states : List StoredState)
    (visit : Visit) (s child : State) → IsNoFiner to how → Waiting how p m states visit s child
    → Waiting to p m states visit s child
Waiting-as to how p m states visit s child fine h = record {
  waits = h.waits;
  awaits = h.awaits;
  steps = StepsTo-as to how p s child fine h.steps;
  steps_aside = IfStepsTo-as to how p s visit.pending fine h.steps_aside;
  best = h.best;
  stored = h.stored;
  ready = h.ready;
}

pub Path-as : (to how : Precision) (p : Program) (m : ℕ) (states : List StoredState)
    (path : List Visit) (a b : State) → IsNoFiner to how → Path how p m states a path b
    → Path to p m states a path b
unfolding Path
Path-as to how p m states [] a b fine h = h
Path-as to how p m states (visit ∷ path) a b fine h = (
  h.0,
  Waiting-as to how p m states visit a h.0 fine h.1,
  Path-as to how p m states path h.0 b fine h.2,
)

-- the last visit of a path
pub record LastVisit (how : Precision) (p : Program) (m : ℕ) (states : List StoredState) (a : State)
    (path : List Visit) (visit : Visit) (child : State) : Type 0 where
  pub state : State
  pub before : Path how p m states a path state
  pub waiting : Waiting how p m states visit state child

pub Path-pop : {how : Precision} (p : Program) (m : ℕ) (states : List StoredState)
    (path : List Visit) (visit : Visit)
    (a child : State) → Path how p m states a (path ++ visit ∷ []) child
    → LastVisit how p m states a path visit child
unfolding Path
Path-pop {how = how} p m states [] visit a child h =
    record {
      state = a;
      before = refl;
      waiting = subst (λ x. Waiting how p m states visit a x)
          (sym h.2) h.1;
    }
Path-pop p m states (first ∷ path) visit a child h =
    let rest = Path-pop p m states path visit h.0 child h.2 in
    record { state = rest.state; before = (h.0, h.1, rest.before); waiting = rest.waiting }

pub Path-none : (how : Precision) (p : Program) (m : ℕ) (states : List StoredState)
    (path : List Visit) (a b : State)
    → length path ≡ 0 → Path how p m states a path b → b ≡ a
unfolding Path
Path-none how p m states [] a b none h = h
Path-none how p m states (visit ∷ path) a b none h = absurd (omega arith)

pub Path-here : (how : Precision) (p : Program) (m : ℕ) (states : List StoredState)
    (path : List Visit) (a b : State)
    → path ≡ [] → b ≡ a → Path how p m states a path b
unfolding Path
Path-here how p m states path a b none e = subst (λ x. Path how p m states a x b) (sym none) e

-- ---- what a visit waits for

-- the child ends within its number, and nothing is pending
pub StepsAwaited-ends : (p : Program) (visit : Visit) (s child : State) (n best : ℕ)
    → StepsAwaited p visit s child → visit.pending ≡ None → Within p child n
    → best ≡ max visit.best n → Within p s (best + 1)
unfolding StepsAwaited Within Ends
StepsAwaited-ends p visit s child n best waits none within is = rw add-one (λ clock fits w means.
    After-weaker (λ v. Means p child v ⊎ (MeantBy p visit.pending v ⊎ Ends p clock v visit.best))
    (λ v. Ends p clock v best) (step p clock w)
    (λ v h. elim h [
      | inl a ↦ Ends-more p clock v n best (omega arith) (within clock fits v a)
      | inr b ↦
          elim b [
            | inl q ↦ absurd
                (subst (λ o. MeantBy p o v) none q)
            | inr e ↦ Ends-more p clock v visit.best best
                (omega arith) e
          ]
    ])
    (waits clock fits w means))

-- the pending state is explored next
pub StepsAwaited-next : (p : Program) (visit : Visit) (s child other : State) (n : ℕ)
    → StepsAwaited p visit s child → visit.pending ≡ Some other → Within p child n
    → StepsAwaited p
    (record { pending = None; best = max visit.best n; stored = visit.stored }) s other
unfolding StepsAwaited Within Ends
StepsAwaited-next p visit s child other n waits some within = λ clock fits w means.
    After-weaker (λ v. Means p child v ⊎ (MeantBy p visit.pending v ⊎ Ends p clock v visit.best))
    (λ v. Means p other v ⊎ (⊥ ⊎ Ends p clock v (max visit.best n))) (step p clock w)
    (λ v h. elim h [
      | inl a ↦
          inr (inr (Ends-more p clock v n (max visit.best n) (omega arith) (within clock fits v a)))
      | inr b ↦
          elim b [
            | inl q ↦ inl (subst (λ o. MeantBy p o v) some q)
            | inr e ↦ inr
                (inr (Ends-more p clock v visit.best (max visit.best n) (omega arith) e))
          ]
    ])
    (waits clock fits w means)

-- ---- the number that a visit awaits

pub NumberFollows-ends : (p : Program) (visit : Visit) (s child : State) (n best : ℕ)
    → NumberFollows p visit s child → visit.pending ≡ None → HasNumber p child n
    → best ≡ max visit.best n → HasNumber p s (best + 1)
unfolding NumberFollows
NumberFollows-ends p visit s child n best awaits none number is =
    let own : HasNumber p s (max visit.best n + 1) =
    subst (λ o. NumberFollowsBoth p o s (max visit.best n)) none (awaits n number) in
    subst (λ b. HasNumber p s (b + 1)) (sym is) own

pub NumberFollows-next : (p : Program) (visit : Visit) (s child other : State) (n : ℕ)
    → NumberFollows p visit s child → visit.pending ≡ Some other → HasNumber p child n
    → NumberFollows p
    (record { pending = None; best = max visit.best n; stored = visit.stored }) s other
unfolding NumberFollows
NumberFollows-next p visit s child other n awaits some number =
    subst (λ o. NumberFollowsBoth p o s (max visit.best n)) some (awaits n number)

pub NumberFollows-one : (p : Program) (s a b : State) (stored : Option ℕ)
    → StepsInto p s ways.One a b
    → NumberFollows p (record { pending = None; best = 0; stored = stored }) s a
unfolding NumberFollows
NumberFollows-one p s a b stored step =
    λ n number. LeadsToOne s a b n (max 0 n + 1) step number (omega arith)

pub NumberFollows-two : (p : Program) (s a b : State) (stored : Option ℕ)
    → StepsInto p s ways.Two a b
    → NumberFollows p (record { pending = Some b; best = 0; stored = stored }) s a
unfolding NumberFollows
NumberFollows-two p s a b stored step =
    λ n number k aside. LeadsToTwo s a b n k (max (max 0 n) k + 1) step number aside (omega arith)

-- ---- where a step leads

-- the step has no successor
pub LeadsTo-ends : (p : Program) (s a b : State) → LeadsTo p s ways.None a b → Within p s 1
unfolding LeadsTo Within Ends
LeadsTo-ends p s a b leads =
    λ clock fits w means. After-weaker (λ v. ⊥) (λ v. Ends p clock v 0) (step p clock w) (λ v h. h)
    (leads clock fits w means)

pub StepsAwaited-one : (p : Program) (s a b : State) (stored : Option ℕ) → LeadsTo p s ways.One a b
    → StepsAwaited p (record { pending = None; best = 0; stored = stored }) s a
unfolding LeadsTo StepsAwaited
StepsAwaited-one p s a b stored leads = λ clock fits w means.
    After-weaker (λ v. Means p a v) (λ v. Means p a v ⊎ (⊥ ⊎ Ends p clock v 0)) (step p clock w)
    (λ v h. inl h) (leads clock fits w means)

pub StepsAwaited-two : (p : Program) (s a b : State) (stored : Option ℕ) → LeadsTo p s ways.Two a b
    → StepsAwaited p (record { pending = Some b; best = 0; stored = stored }) s a
unfolding LeadsTo StepsAwaited
StepsAwaited-two p s a b stored leads = λ clock fits w means.
    After-weaker (λ v. Means p a v ⊎ Means p b v)
    (λ v. Means p a v ⊎ (Means p b v ⊎ Ends p clock v 0)) (step p clock w)
    (λ v h. elim h [ inl x ↦ inl x | inr y ↦ inr (inl y) ]) (leads clock fits w means)
