-- Laws of the definitions in specs/Running/Ends.
use Rattle.isa_model.proofs.Common.{◌≡◌, ℕ, zero, suc, ◌≤◌, sym, ap, ◌∙◌, subst, arith, refl, Program, State, StepResult, Next, Finished, Trapped, step, Progress, GoesOn, Ended, after_step, advanced, progress, Reaches, Runs}
use Rattle.isa_model.proofs.RunLaws.{progress-zero, progress-suc}
use Rattle.isa_model.specs.Running.Ends.{After, Ends}

-- what holds after a step may be weakened
pub After-weaker : (P Q : State → Type 0) (r : StepResult) → ((t : State) → P t → Q t) → After P r
    → After Q r
After-weaker P Q (Next t) h k = h t k
After-weaker P Q (Finished a) h k = tt
After-weaker P Q (Trapped e) h k = k

-- what ends within n steps ends within more
pub Ends-more : (p : Program) (clock : ℕ → ℕ) (s : State) (n m : ℕ) → n ≤ m → Ends p clock s n
    → Ends p clock s m
unfolding Ends
Ends-more p clock s zero m le h = absurd h
Ends-more p clock s (suc n) zero le h = absurd (omega arith)
Ends-more p clock s (suc n) (suc m) le h =
    After-weaker (λ t. Ends p clock t n) (λ t. Ends p clock t m) (step p clock s)
    (λ t k. Ends-more p clock t n m (omega arith) k) h

-- a step after which the run goes on from u leads to u
after_step-GoesOn : (n : ℕ) (s : State) (r : StepResult) (u : State) → after_step n s r ≡ GoesOn u
    → r ≡ Next u
after_step-GoesOn n s (Next t) u h = cc
after_step-GoesOn n s (Finished a) u h = cc
after_step-GoesOn n s (Trapped e) u h = cc

advanced-GoesOn : (p : Program) (clock : ℕ → ℕ) (n : ℕ) (q : Progress) (u : State)
    → advanced p clock n q ≡ GoesOn u
    → (t : State) × (q ≡ GoesOn t) × (step p clock t ≡ Next u)
advanced-GoesOn p clock n (GoesOn t) u h = (t, refl, after_step-GoesOn n t (step p clock t) u h)
advanced-GoesOn p clock n (Ended e t) u h = absurd (cc)

-- the last of n + 1 steps
pub Reaches-last : (p : Program) (clock : ℕ → ℕ) (s : State) (n : ℕ) (u : State)
    → Reaches p clock s (suc n) u
    → (t : State) × Reaches p clock s n t × (step p clock t ≡ Next u)
Reaches-last p clock s n u h =
    let e = progress-suc p clock n s in
    advanced-GoesOn p clock n (progress p clock n s) u (sym e ∙ h)

-- one more step at the end
pub Reaches-then : (p : Program) (clock : ℕ → ℕ) (s : State) (n : ℕ) (t u : State)
    → Reaches p clock s n t → step p clock t ≡ Next u
    → Reaches p clock s (suc n) u
Reaches-then p clock s n t u h k =
    progress-suc p clock n s ∙ ap (advanced p clock n) h ∙ ap (after_step n t) k

-- one more step at the front
pub Reaches-before : (p : Program) (clock : ℕ → ℕ) (s t : State) (n : ℕ) (u : State)
    → step p clock s ≡ Next t → Reaches p clock t n u
    → Reaches p clock s (suc n) u
Reaches-before p clock s t zero u first h =
    let same : t ≡ u = cc (progress-zero p clock t) in
    Reaches-then p clock s zero s u (progress-zero p clock s) (first ∙ ap Next same)
Reaches-before p clock s t (suc n) u first h =
    let (v, front, last) = Reaches-last p clock t n u h in
    Reaches-then p clock s (suc n) v u (Reaches-before p clock s t n v first front) last

-- the first of n + 1 steps
pub Reaches-first : (p : Program) (clock : ℕ → ℕ) (s : State) (n : ℕ) (u : State)
    → Reaches p clock s (suc n) u
    → (t : State) × (step p clock s ≡ Next t) × Reaches p clock t n u
Reaches-first p clock s zero u h =
    let (t, here, last) = Reaches-last p clock s zero u h in
    let same : s ≡ t = cc (progress-zero p clock s) in
    (u, ap (step p clock) same ∙ last, progress-zero p clock u)
Reaches-first p clock s (suc n) u h =
    let (v, front, last) = Reaches-last p clock s (suc n) u h in
    let (t, first, rest) = Reaches-first p clock s n v front in
    (t, first, Reaches-then p clock t n v u rest last)

after-exit : (P : State → Type 0) (r : StepResult) (a : ℕ) → r ≡ Finished a → After P r
after-exit P (Next t) a h = absurd (cc)
after-exit P (Finished b) a h = tt
after-exit P (Trapped e) a h = absurd (cc)

-- a run of m steps ends within any n from m up
pub Ends-Runs : (p : Program) (clock : ℕ → ℕ) (s : State) (m n a : ℕ) → Runs p clock s m a → m ≤ n
    → Ends p clock s n
unfolding Ends
Ends-Runs p clock s zero n a h le = absurd h
Ends-Runs p clock s (suc zero) zero a h le = absurd (omega arith)
Ends-Runs p clock s (suc zero) (suc n) a h le =
    let (t, here, exits) = h in
    let same : s ≡ t = cc (progress-zero p clock s) in
    after-exit (λ t. Ends p clock t n) (step p clock s) a (ap (step p clock) same ∙ exits)
Ends-Runs p clock s (suc (suc m)) zero a h le = absurd (omega arith)
Ends-Runs p clock s (suc (suc m)) (suc n) a h le =
    let (u, reached, exits) = h in
    let (t, first, rest) = Reaches-first p clock s m u reached in
    subst (After (λ t. Ends p clock t n)) (sym first)
    (Ends-Runs p clock t (suc m) n a (u, rest, exits) (omega arith))

-- how a run that ends goes: its first step, by cases
runs_by_cases : (p : Program) (clock : ℕ → ℕ) (s : State) (n : ℕ) (r : StepResult)
    → step p clock s ≡ r
    → ((t : State) → Ends p clock t n → (m : ℕ) × (a : ℕ) × (m ≤ n) × Runs p clock t m a)
    → After (λ t. Ends p clock t n) r → (m : ℕ) × (a : ℕ) × (m ≤ suc n) × Runs p clock s m a
runs_by_cases p clock s n (Next t) first more h =
    let (m, a, within, runs) = more t h in
    before p clock s t m n a first within runs
  where
    before : (p : Program) (clock : ℕ → ℕ) (s t : State) (m n a : ℕ) → step p clock s ≡ Next t
        → m ≤ n → Runs p clock t m a
        → (k : ℕ) × (b : ℕ) × (k ≤ suc n) × Runs p clock s k b
    before p clock s t zero n a first within runs = absurd runs
    before p clock s t (suc m) n a first within runs =
        let (u, rest, exits) = runs in
        (suc (suc m), a, omega arith, (u, Reaches-before p clock s t m u first rest, exits))
runs_by_cases p clock s n (Finished a) first more h =
    (1, a, omega arith, (s, progress-zero p clock s, first))
runs_by_cases p clock s n (Trapped e) first more h = absurd h

-- what ends within n steps is a run of some m steps, at most n
pub Runs-Ends : (p : Program) (clock : ℕ → ℕ) (s : State) (n : ℕ) → Ends p clock s n
    → (m : ℕ) × (a : ℕ) × (m ≤ n) × Runs p clock s m a
unfolding Ends
Runs-Ends p clock s zero h = absurd h
Runs-Ends p clock s (suc n) h =
    runs_by_cases p clock s n (step p clock s) refl (λ t k. Runs-Ends p clock t n k) h
