-- Laws of runs: two runs from one state are the same, a run that has ended stays so, and its turn
-- is its outcome, if it has one within the limit.
use Rattle.isa_model.proofs.Common.{◌≡◌, ℕ, zero, suc, ◌+◌, ◌-◌, ◌≤◌, List, sym, ap, ◌∙◌, arith, add-suc, add-zero, refl, FrameHead, Program, KeyValues, State, Finished, step, start_state, GoesOn, Ended, after_step, advanced, progress, Reaches, Runs, Outcome, HasOutcome, Turn, turn}
use Rattle.isa_model.specs.declared.ends.End.{End}
use Rattle.isa_model.specs.declared.ends.End.TheVariants.{Exit}

-- after 0 steps a run is at the state where it began
pub progress-zero : (p : Program) (clock : ℕ → ℕ) (s : State) → progress p clock 0 s ≡ GoesOn s
unfolding progress
progress-zero p clock s = refl

-- after one more step
pub progress-suc : (p : Program) (clock : ℕ → ℕ) (n : ℕ) (s : State)
    → progress p clock (suc n) s ≡ advanced p clock n (progress p clock n s)
unfolding progress
progress-suc p clock n s = refl

-- a run that has ended stays so
pub progress-ended : (p : Program) (clock : ℕ → ℕ) (s t : State) (e : End) (n k : ℕ)
    → progress p clock n s ≡ Ended e t → progress p clock (n + k) s ≡ Ended e t
unfolding progress
progress-ended p clock s t e n zero h = rw (add-zero n) h
progress-ended p clock s t e n (suc k) h =
    rw add-suc (ap (advanced p clock (n + k)) (progress-ended p clock s t e n k h))

-- a run that reaches t after n steps, and exits with the next one, has ended within each limit
-- above n
pub progress-exit : (p : Program) (clock : ℕ → ℕ) (s t : State) (n limit a : ℕ)
    → Reaches p clock s n t → step p clock t ≡ Finished a → suc n ≤ limit
    → progress p clock limit s ≡ Ended (Exit a (n + 1)) t
unfolding progress
progress-exit p clock s t n limit a reached exits within =
    let last : progress p clock (suc n) s ≡ Ended (Exit a (n + 1)) t =
    ap (advanced p clock n) reached ∙ ap (after_step n t) exits in
    let split : suc n + (limit - suc n) ≡ limit = omega arith in
    sym (ap (λ k. progress p clock k s) split)
    ∙ progress-ended p clock s t (Exit a (n + 1)) (suc n) (limit - suc n) last

-- if the run from the start state has an outcome within the limit, its turn is that outcome
pub turn-outcome : (p : Program) (head : FrameHead) (packet : List ℕ) (contents : List KeyValues)
    (clock : ℕ → ℕ) (o : Outcome) (limit : ℕ)
    → HasOutcome p head packet contents clock o → o.steps ≤ limit
    → turn p limit clock head packet contents
    ≡ record {
      ends = Exit o.number o.steps;
      packet = o.packet;
      contents = o.contents;
      clock_calls = o.clock_calls;
    }
unfolding turn
turn-outcome p head packet contents clock o limit h within =
    let ended = progress-exit p clock
    (start_state head packet contents) h.last h.before limit o.number h.reached h.exits
    (omega arith) in
    let steps : h.before + 1 ≡ o.steps = omega arith in
    rw (ended, steps, h.packet_is, h.contents_are, h.clock_calls_are) refl

abbrev outcome_of : ℕ → List ℕ → List KeyValues → ℕ → ℕ → Outcome
outcome_of n packet contents steps asked = record {
  number = n;
  packet = packet;
  contents = contents;
  steps = steps;
  clock_calls = asked;
}

-- a run from the start state has one outcome at most
pub HasOutcome-same : (p : Program) (head : FrameHead) (packet : List ℕ) (contents : List KeyValues)
    (clock : ℕ → ℕ) (o q : Outcome)
    → HasOutcome p head packet contents clock o → HasOutcome p head packet contents clock q → o ≡ q
HasOutcome-same p head packet contents clock o q h k =
    let one = turn-outcome p head packet contents clock o (o.steps + q.steps) h (omega arith) in
    let two = turn-outcome p head packet contents clock q (o.steps + q.steps) k (omega arith) in
    let same = sym one ∙ two in
    let ends : Exit o.number o.steps ≡ Exit q.number q.steps = ap (λ (t : Turn). t.ends) same in
    let number : o.number ≡ q.number = cc in
    let steps : o.steps ≡ q.steps = cc in
    ap (λ n. outcome_of n o.packet o.contents o.steps o.clock_calls) number
    ∙ ap (λ l. outcome_of q.number l o.contents o.steps o.clock_calls)
    (ap (λ (t : Turn). t.packet) same)
    ∙ ap (λ c. outcome_of q.number q.packet c o.steps o.clock_calls)
    (ap (λ (t : Turn). t.contents) same)
    ∙ ap (λ n. outcome_of q.number q.packet q.contents n o.clock_calls) steps
    ∙ ap (λ n. outcome_of q.number q.packet q.contents q.steps n)
    (ap (λ (t : Turn). t.clock_calls) same)

-- two runs from one state have the same steps, and exit with the same number
pub Runs-same : (p : Program) (clock : ℕ → ℕ) (s : State) (m n a b : ℕ) → Runs p clock s m a
    → Runs p clock s n b → (m ≡ n) × (a ≡ b)
Runs-same p clock s zero n a b h k = absurd h
Runs-same p clock s (suc m) zero a b h k = absurd k
Runs-same p clock s (suc m) (suc n) a b h k =
    let (t, there, exits) = h in
    let (u, also, leaves) = k in
    let one = progress-exit p clock s t m (suc m + suc n) a there exits (omega arith) in
    let two = progress-exit p clock s u n (suc m + suc n) b also leaves (omega arith) in
    let steps : m + 1 ≡ n + 1 = cc in
    let numbers : a ≡ b = cc in
    (omega arith, numbers)
