-- Determined programs are accepted, and their bound is the count of steps of their run.
use Rattle.walks.proofs.Common.{◌≡◌, ◌≤◌, ◌+◌, ℕ, zero, suc, Some, None, length, arith, refl, sym, ap, ◌∙◌, subst, inl, inr, Insn, CallLocal, Exit, Program, fetch, StepResult, Next, Finished, Trapped, step, IsProgram, IsClock, Runs, Ends-Runs, IsDeterminedForm, IsDetermined, step_finishes, Runs-before, Runs-one, State, depth, Means, Covers, start, Ways, LeadsTo, StepsToWays, IsOutOfMemory, IsAmong, StepsTo, HasSteps, ComesBack, StepsInto, HasNumber, LeadsNowhere, LeadsToOne, LeadsToTwo, IsCoveredBy, IsRefused, call_distance, Coarse}
use Rattle.isa_model.specs.Machine.States as Machine
use Rattle.isa_model.proofs.RunLaws.{Runs-same}
use Rattle.isa_model.specs.Running.Ends.{Ends, After}
use Rattle.stack_state.proofs.StartsLaws.{Means-start}
use Rattle.transfer.specs.declared.Ways.TheVariants as ways
use Rattle.walks.specs.declared.refusals.Refusal.{Refusal}
use Rattle.walks.proofs.Accepted.{IsFlow-whole, IsRefused-want}
use Rattle.walks.proofs.Forgotten.{Means-forgets}
use Rattle.walks.proofs.Exits.{exited_none}
use Rattle.walks.proofs.OnNumbers.{StepsToWays-performs}
use Rattle.walks.proofs.Beside.{first, Along}
use Rattle.walks.proofs.StillBeside.{NextAlong}
use Rattle.walks.proofs.Along.{step_along}
use Rattle.walks.proofs.AlongWalks.{into_along, to_along, start_along}
use Rattle.walks.proofs.NeverStuck.{first_along, takes_along, steps_leads, walks_along, never_stuck}

-- ---- members of the states

same_slot : (p : Program) (s : State) (v : Machine.State) → Means p s v → v.slot ≡ s.slot
unfolding Means
same_slot p s v means = means.1.slot_is

exit_nowhere : (p : Program) (s a b : State) (i : Insn) → depth s ≡ 1
    → StepsToWays p s i ways.One a b → i ≡ Exit → ⊥
exit_nowhere p s a b i one makes is =
    let h = StepsToWays-performs p s Exit ways.One a b
    (subst (λ x. StepsToWays p s x ways.One a b) is makes) in
    let none = exited_none p.version (length s.callers.items) s a ways.One one h in
    absurd (cc)

-- each member of a state that does not exit becomes a member of the next state
member_goes : (p : Program) (steps : ℕ) (d : IsDetermined p steps) (k : ℕ) (s : State)
    (t : Machine.State) (i : Insn) (a b : State)
    → IsProgram p → Along p steps d k s t → fetch p s.slot ≡ Some i
    → StepsToWays p s i ways.One a b → (clock : ℕ → ℕ) → IsClock clock → (v : Machine.State)
    → Means p s v → (x : Machine.State) × (step p clock v ≡ Next x) × Means p a x
unfolding LeadsTo
member_goes p steps d k s t i a b program along here makes =
    λ clock answers v means.
    of clock v means (step p clock v) refl
    (steps_leads p steps d k s t i ways.One a b program along here makes clock answers v
    means) where
      of : (clock : ℕ → ℕ) (v : Machine.State) → Means p s v → (r : StepResult) → step p clock v ≡ r
          → After (λ x. Means p a x) r
          → (x : Machine.State) × (step p clock v ≡ Next x) × Means p a x
      of clock v means (Next x) is after = (x, is, after)
      of clock v means (Finished n) is after =
          absurd (exit_nowhere p s a b i along.mirrors.one makes
          (step_finishes p clock v i n (ap (fetch p) (same_slot p s v means) ∙ here)
          (d.forms s.slot i here) is))
      of clock v means (Trapped e) is after = absurd after

-- ---- the number of a state is the count of steps of its members' runs

last_runs : (p : Program) (clock : ℕ → ℕ) (v : Machine.State) (r : StepResult) → step p clock v ≡ r
    → After (λ x. ⊥) r → (a : ℕ) × Runs p clock v 1 a
last_runs p clock v (Next x) is after = absurd after
last_runs p clock v (Finished a) is after = (a, Runs-one p clock v a is)
last_runs p clock v (Trapped e) is after = absurd after

member_runs : (p : Program) (steps : ℕ) (d : IsDetermined p steps) (k n : ℕ) (s : State)
    (t : Machine.State)
    → IsProgram p → HasNumber p s n → Along p steps d k s t
    → (clock : ℕ → ℕ) → IsClock clock → (v : Machine.State) → Means p s v
    → (a : ℕ) × Runs p clock v n a
unfolding LeadsTo Covers
member_runs p steps d k n s t program (LeadsNowhere _ a b _ into is) along =
    λ clock answers v means.
    let leads = steps_leads p steps d k s t into.insn ways.None into.next into.aside program along
    into.here into.makes in
    let (x, runs) = last_runs p clock v (step p clock v) refl (leads clock answers v means) in
    (x, subst (λ j. Runs p clock v j x) (sym is) runs)
member_runs p steps d k n s t program (LeadsToOne _ a b m _ into child is) along =
    λ clock answers v means.
    let (u, next) = into_along p steps d k s t ways.One a b along into in
    let (x, goes, made) =
    member_goes p steps d k s t into.insn into.next into.aside program along into.here
    into.makes clock answers v means in
    let meant = Means-forgets p into.next a x into.forgets made in
    let (y, runs) = member_runs p steps d (suc k) m a u program child next clock answers x meant in
    let same : suc m ≡ n = omega (arith, is) in
    (y, subst (λ j. Runs p clock v j y) same (Runs-before p clock v x m y goes runs))
member_runs p steps d k n s t program (LeadsToTwo _ a b i j _ into number other is) along =
    absurd (into_along p steps d k s t ways.Two a b along into)
member_runs p steps d k n s t program (IsCoveredBy _ e far _ walk same covers number) along =
    λ clock answers v means.
    let (u, there) = walks_along p steps d far e walk in
    member_runs p steps d (0 + far) n e u program number there clock answers v (covers v means)

-- ---- no path comes back

-- the end of a member's run, after a walk
record Later (p : Program) (b : State) (steps n : ℕ) : Type 0 where
  clock : ℕ → ℕ
  answers : IsClock clock
  state : Machine.State
  meant : Means p b state
  left : ℕ
  ends : Ends p clock state left
  is : n ≡ left + steps

ends_on : (p : Program) (clock : ℕ → ℕ) (v x : Machine.State) (n : ℕ) → Ends p clock v n
    → step p clock v ≡ Next x → (m : ℕ) × (n ≡ suc m) × Ends p clock x m
unfolding Ends
ends_on p clock v x zero h goes = absurd h
ends_on p clock v x (suc m) h goes = (m, refl, subst (After (λ y. Ends p clock y m)) goes h)

-- a step to the only state that there is
one_to : (p : Program) (steps : ℕ) (d : IsDetermined p steps) (k : ℕ) (s c : State)
    (t : Machine.State)
    → Along p steps d k s t → StepsTo Coarse p s c → (b : State) × StepsInto p s ways.One c b
one_to p steps d k s c t along step =
    of step.taken step.first step.other step.makes
    (step_along p steps d k s t step.insn step.taken step.first step.other along step.here
    step.makes) step.among where
      of : (w : Ways) (x y : State) → StepsToWays p s step.insn w x y → NextAlong p steps d k w x
          → IsAmong w x y step.next → (b : State) × StepsInto p s ways.One c b
      of ways.None x y makes next among = absurd among
      of ways.One x y makes next among = (
        y,
        record {
          insn = step.insn;
          here = step.here;
          next = step.next;
          aside = y;
          makes = subst (λ z. StepsToWays p s step.insn ways.One z y) (sym among) makes;
          forgets = step.forgets;
        },
      )
      of ways.Two x y makes next among = absurd next

walk_members : (p : Program) (steps : ℕ) (d : IsDetermined p steps) (j k n : ℕ) (a b : State)
    (t : Machine.State)
    → IsProgram p → Along p steps d k a t → HasSteps Coarse p j a b
    → (clock : ℕ → ℕ) → IsClock clock → (v : Machine.State) → Means p a v → Ends p clock v n
    → Later p b j n
unfolding HasSteps
walk_members p steps d zero k n a b t program along h =
    λ clock answers v means ends.
    record {
      clock = clock;
      answers = answers;
      state = v;
      meant = subst (λ x. Means p x v) (sym h) means;
      left = n;
      ends = ends;
      is = omega arith;
    }
walk_members p steps d (suc j) k n a b t program along h = λ clock answers v means ends.
    let c = h.0 in
    let (other, into) = one_to p steps d k a c t along h.1 in
    let (x, goes, made) =
    member_goes p steps d k a t into.insn into.next into.aside program along into.here
    into.makes clock answers v means in
    let meant = Means-forgets p into.next c x into.forgets made in
    let (m, is, rest) = ends_on p clock v x n ends goes in
    let (u, next) = to_along p steps d k a c t along h.1 in
    let later = walk_members p steps d j
    (suc k) m c b u program next h.2 clock answers x meant rest in
    let left_is = later.is in
    record {
      clock = later.clock;
      answers = later.answers;
      state = later.state;
      meant = later.meant;
      left = later.left;
      ends = later.ends;
      is = omega (arith, is, left_is);
    }

no_end : (p : Program) (steps : ℕ) (d : IsDetermined p steps) (k j : ℕ) (a b : State)
    (t : Machine.State)
    → IsProgram p → Along p steps d k a t → HasSteps Coarse p (suc j) a b → Covers p a b
    → (fuel n : ℕ) → n ≤ fuel → (clock : ℕ → ℕ) → IsClock clock → (v : Machine.State) → Means p a v
    → Ends p clock v n → ⊥
unfolding Covers
no_end p steps d k j a b t program along h covers zero n le clock answers v means ends =
    let later = walk_members p steps d
    (suc j) k n a b t program along h clock answers v means ends in
    let is = later.is in
    omega (arith, is, le)
no_end p steps d k j a b t program along h covers (suc fuel) n le clock answers v means ends =
    let later = walk_members p steps d
    (suc j) k n a b t program along h clock answers v means ends in
    let is = later.is in
    no_end p steps d k j a b t program along h covers fuel later.left
    (omega (arith, is, le)) later.clock later.answers later.state
    (covers later.state later.meant) later.ends

ComesBack-determined : (p : Program) (steps : ℕ) (d : IsDetermined p steps) (slot : ℕ) → IsProgram p
    → ComesBack Coarse p slot → ⊥
ComesBack-determined p steps d slot program h =
    let from = first p steps d in
    let means = Means-start p d.run.head d.run.packet d.run.contents program d.run.given in
    let ends = Ends-Runs p d.run.clock from steps steps d.run.number d.run.runs (omega arith) in
    let walk = h.walk in
    let here = first_along p steps d walk.first walk.starts in
    let begun = Means-forgets p start walk.first from walk.starts means in
    let later = walk_members p steps d h.before 0 steps walk.first h.first from program here
    walk.leads d.run.clock d.run.clock_is from begun ends in
    let (t, along) = walks_along p steps d h.before h.first walk in
    no_end p steps d
    (0 + h.before) h.between h.first h.again t program along h.leads_back h.covers later.left
    later.left (omega arith) later.clock later.answers later.state later.meant later.ends

-- ---- the class

determined_no_call : (i : Insn) → IsDeterminedForm i → call_distance i ≡ None
determined_no_call (CallLocal by) form = absurd form
determined_no_call i form = refl

pub IsDetermined-refused : (p : Program) (steps : ℕ) (e : Refusal) (slot : ℕ) → IsProgram p
    → IsRefused p e slot → IsDetermined p steps → IsOutOfMemory e
IsDetermined-refused p steps e slot program refused d =
    let rest = IsRefused-want p e slot (λ e. ⊥)
    (IsFlow-whole p d.whole (λ slot i here. determined_no_call i (d.forms slot i here)))
    (λ e slot h. never_stuck p steps d e slot h)
    (λ slot h. ComesBack-determined p steps d slot program h)
    (λ (s, begins, takes). let few =
    takes_along p steps d 0 s (first p steps d) 1000001
    (first_along p steps d s begins) takes in let most = d.most in omega (arith, few, most))
    refused in
    elim rest [ inl memory ↦ memory | inr none ↦ absurd none ]

pub IsDetermined-bound : (p : Program) (steps n : ℕ) → IsProgram p → HasNumber p start n
    → IsDetermined p steps → n ≡ steps
IsDetermined-bound p steps n program number d =
    let means = Means-start p d.run.head d.run.packet d.run.contents program d.run.given in
    let (a, runs) =
    member_runs p steps d 0 n start (first p steps d) program number
    (start_along p steps d) d.run.clock d.run.clock_is (first p steps d) means in
    (Runs-same p d.run.clock (first p steps d) n steps a d.run.number runs d.run.runs).0
