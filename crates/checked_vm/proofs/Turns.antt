-- A run so far, and the result of its next step.
use Rattle.checked_vm.proofs.Common.{◌≡◌, ℕ, zero, suc, ◌+◌, ◌-◌, ◌<◌, List, [], ◌∷◌, ◌++◌, refl, sym, ap, ◌∙◌, arith, add-one, add-suc, add-zero, append_assoc, append-nil, TrapReason, Program, State, Next, Finished, Trapped, step, Progress, GoesOn, Ended, after_step, advanced, progress, left, turn_of}
use Rattle.isa_model.specs.declared.ends.End.{End}
use Rattle.isa_model.specs.declared.ends.End.TheVariants.{Exit, Trap}
use Rattle.isa_model.proofs.RunLaws.{progress-suc, progress-ended, progress-exit}
use Rattle.checked_vm.specs.Stops.{state_at}
use Rattle.checked_vm.specs.Watching.{beginning, begun_in}

-- the step leads to a next state
pub progress-next : (p : Program) (clock : ℕ → ℕ) (n : ℕ) (s t u : State)
    → progress p clock n s ≡ GoesOn t → step p clock t ≡ Next u
    → progress p clock (n + 1) s ≡ GoesOn u
progress-next p clock n s t u so_far next =
    rw add-one (progress-suc p clock n s ∙ ap (advanced p clock n) so_far
    ∙ ap (after_step n t) next)

-- the step ends the run
pub turn_of-finished : (p : Program) (clock : ℕ → ℕ) (n limit a : ℕ) (s t : State)
    → progress p clock n s ≡ GoesOn t → step p clock t ≡ Finished a → n < limit
    → turn_of (progress p clock limit s) ≡ left (Exit a (n + 1)) t
turn_of-finished p clock n limit a s t so_far finished below =
    ap turn_of (progress-exit p clock s t n limit a so_far finished (omega arith))

pub state_at-finished : (p : Program) (clock : ℕ → ℕ) (n limit a : ℕ) (s t : State)
    → progress p clock n s ≡ GoesOn t → step p clock t ≡ Finished a → n < limit
    → state_at (progress p clock limit s) ≡ t
state_at-finished p clock n limit a s t so_far finished below =
    ap state_at (progress-exit p clock s t n limit a so_far finished (omega arith))

-- the step traps
trapped : (p : Program) (clock : ℕ → ℕ) (n limit : ℕ) (reason : TrapReason) (s t : State)
    → progress p clock n s ≡ GoesOn t → step p clock t ≡ Trapped reason → n < limit
    → progress p clock limit s ≡ Ended (Trap reason n) t
trapped p clock n limit reason s t so_far met below =
    let last : progress p clock (suc n) s ≡ Ended (Trap reason n) t =
    progress-suc p clock n s ∙ ap (advanced p clock n) so_far ∙ ap (after_step n t) met in
    let split : suc n + (limit - suc n) ≡ limit = omega arith in
    sym (ap (λ k. progress p clock k s) split)
    ∙ progress-ended p clock s t (Trap reason n) (suc n) (limit - suc n) last

pub state_at-trapped : (p : Program) (clock : ℕ → ℕ) (n limit : ℕ) (reason : TrapReason)
    (s t : State) → progress p clock n s ≡ GoesOn t → step p clock t ≡ Trapped reason → n < limit
    → state_at (progress p clock limit s) ≡ t
state_at-trapped p clock n limit reason s t so_far met below =
    ap state_at (trapped p clock n limit reason s t so_far met below)

pub turn_of-trapped : (p : Program) (clock : ℕ → ℕ) (n limit : ℕ) (reason : TrapReason)
    (s t : State) → progress p clock n s ≡ GoesOn t → step p clock t ≡ Trapped reason → n < limit
    → turn_of (progress p clock limit s) ≡ left (Trap reason n) t
turn_of-trapped p clock n limit reason s t so_far met below =
    ap turn_of (trapped p clock n limit reason s t so_far met below)

-- ---- the states in which steps begin

pub begun_in-zero : (p : Program) (clock : ℕ → ℕ) (s : State) (states : List State)
    → states ≡ states ++ begun_in p clock 0 s
unfolding begun_in
begun_in-zero p clock s states = sym (append-nil states)

begun_in-suc : (p : Program) (clock : ℕ → ℕ) (n : ℕ) (s : State)
    → begun_in p clock (suc n) s ≡ begun_in p clock n s ++ beginning (progress p clock n s)
unfolding begun_in
begun_in-suc p clock n s = refl

-- one more step begins
pub begun_in-next : (p : Program) (clock : ℕ → ℕ) (n : ℕ) (s t : State) (states : List State)
    → progress p clock n s ≡ GoesOn t
    → (states ++ begun_in p clock n s) ++ t ∷ [] ≡ states ++ begun_in p clock (n + 1) s
begun_in-next p clock n s t states so_far =
    let one : begun_in p clock n s ++ t ∷ [] ≡ begun_in p clock (suc n) s =
    ap (λ (x : Progress). begun_in p clock n s ++ beginning x) (sym so_far)
    ∙ sym (begun_in-suc p clock n s) in
    append_assoc states (begun_in p clock n s) (t ∷ [])
    ∙ ap (λ l. states ++ l) one
    ∙ ap (λ k. states ++ begun_in p clock k s) (sym (add-one n))

-- no step begins after the end
begun_in-ended : (p : Program) (clock : ℕ → ℕ) (s t : State) (e : End) (n k : ℕ)
    → progress p clock n s ≡ Ended e t → begun_in p clock (n + k) s ≡ begun_in p clock n s
begun_in-ended p clock s t e n zero h = ap (λ m. begun_in p clock m s) (add-zero n)
begun_in-ended p clock s t e n (suc k) h =
    let more : n + suc k ≡ suc (n + k) = omega arith in
    ap (λ m. begun_in p clock m s) more
    ∙ begun_in-suc p clock (n + k) s
    ∙ ap (λ (x : Progress). begun_in p clock (n + k) s ++ beginning x)
    (progress-ended p clock s t e n k h)
    ∙ append-nil (begun_in p clock (n + k) s)
    ∙ begun_in-ended p clock s t e n k h

-- the step that begins in t is the last one
begun_in-last : (p : Program) (clock : ℕ → ℕ) (n limit : ℕ) (s t : State) (e : End)
    (states : List State) → progress p clock n s ≡ GoesOn t
    → progress p clock (suc n) s ≡ Ended e t → n < limit
    → (states ++ begun_in p clock n s) ++ t ∷ [] ≡ states ++ begun_in p clock limit s
begun_in-last p clock n limit s t e states so_far last below =
    let split : suc n + (limit - suc n) ≡ limit = omega arith in
    begun_in-next p clock n s t states so_far
    ∙ ap (λ k. states ++ begun_in p clock k s) (add-one n)
    ∙ ap (λ l. states ++ l) (sym (begun_in-ended p clock s t e (suc n) (limit - suc n) last))
    ∙ ap (λ k. states ++ begun_in p clock k s) split

pub begun_in-finished : (p : Program) (clock : ℕ → ℕ) (n limit a : ℕ) (s t : State)
    (states : List State)
    → progress p clock n s ≡ GoesOn t → step p clock t ≡ Finished a → n < limit
    → (states ++ begun_in p clock n s) ++ t ∷ [] ≡ states ++ begun_in p clock limit s
begun_in-finished p clock n limit a s t states so_far finished below =
    let last : progress p clock (suc n) s ≡ Ended (Exit a (n + 1)) t =
    progress-suc p clock n s ∙ ap (advanced p clock n) so_far ∙ ap (after_step n t) finished in
    begun_in-last p clock n limit s t (Exit a (n + 1)) states so_far last below

pub begun_in-trapped : (p : Program) (clock : ℕ → ℕ) (n limit : ℕ) (reason : TrapReason)
    (s t : State) (states : List State)
    → progress p clock n s ≡ GoesOn t → step p clock t ≡ Trapped reason → n < limit
    → (states ++ begun_in p clock n s) ++ t ∷ [] ≡ states ++ begun_in p clock limit s
begun_in-trapped p clock n limit reason s t states so_far met below =
    let last : progress p clock (suc n) s ≡ Ended (Trap reason n) t =
    progress-suc p clock n s ∙ ap (advanced p clock n) so_far ∙ ap (after_step n t) met in
    begun_in-last p clock n limit s t (Trap reason n) states so_far last below
