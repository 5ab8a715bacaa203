-- Plain programs are accepted.
use Rattle.walks.proofs.Common.{◌≡◌, ◌≤◌, [], ℕ, zero, suc, Some, List, length, arith, refl, sym, ap, subst, inl, inr, ◌⊎◌, Reg, Insn, Program, fetch, writes, Follows, FallsTo, JumpsTo, Each, IsOneOf, needs, written_too, PathTo, State, start, Step, StepsTo, HasSteps, IsStuck, HasNumber, IsRefused, IsOutOfMemory, IsUnanswered, IsLive, Coarse, Forgets}
use Rattle.isa_model.specs.MustAccept.Plain.{IsPlain}
use Rattle.transfer.specs.declared.refusals.Refusal.{Refusal as StepRefusal}
use Rattle.walks.specs.declared.refusals.Refusal.{Refusal}
use Rattle.walks.proofs.Forgotten.{Forgets-slot}
use Rattle.walks.proofs.Living.{plain_calls, needs_live, live_before, KnowsNumbers-forgets, known_further}
use Rattle.walks.proofs.Forward.{StepsToWays-follows, one_frame-start, HasNumber-forward, StartTakes-few, ComesBack-forward}
use Rattle.walks.proofs.Accepted.{HasNoCalls, no_call, IsFlow-whole, IsRefused-want, Each-all, Each-one, needs_reads, tests_pass}
use Rattle.walks.proofs.Exits.{ShowsNoAction}
use Rattle.walks.proofs.OnNumbers.{NumbersIn, refused_unshown}
use Rattle.walks.proofs.KnowsNumbers.{KnowsNumbers, KnowsNumbers-makes}

IsPlain-no_calls : (p : Program) → IsPlain p → HasNoCalls p
IsPlain-no_calls p plain = λ slot i here. no_call i (plain.forms slot i here)

-- ---- walks

-- some path reaches the state's slot, and what it wrote and is live is known there
record KnowsWritten (p : Program) (s : State) : Type 0 where
  steps : ℕ
  written : List Reg
  path : PathTo p steps s.slot written
  known : List Reg
  knows : KnowsNumbers s known
  live : (r : Reg) → IsLive p r s.slot → IsOneOf written r → IsOneOf known r

needed : (p : Program) (s : State) (i : Insn) → IsPlain p → fetch p s.slot ≡ Some i
    → (h : KnowsWritten p s) → Each (NumbersIn s) (needs i)
needed p s i plain here h =
    let each = plain.written h.steps s.slot h.written i h.path here in
    let calls = plain_calls i (plain.forms s.slot i here) in
    Each-all (NumbersIn s) (needs i)
    (λ r among. h.knows.numbers r
    (h.live r (needs_live p s.slot i r here calls among)
    (Each-one (IsOneOf h.written) (needs i) r each among)))

pub follows_by : (p : Program) (slot next : ℕ) (i : Insn) → fetch p slot ≡ Some i
    → Follows p slot next → FallsTo slot i next ⊎ JumpsTo p slot i next
follows_by p slot next i there (j, here, on) =
    let same : j ≡ i = cc (here, there) in
    subst (λ x. FallsTo slot x next ⊎ JumpsTo p slot x next) same on

pub PathTo-more : (p : Program) (n from slot : ℕ) (written : List Reg) (i : Insn)
    → PathTo p n from written → fetch p from ≡ Some i → FallsTo from i slot ⊎ JumpsTo p from i slot
    → PathTo p (suc n) slot (written_too (writes i) written)
unfolding PathTo
PathTo-more p n from slot written i path here on = (from, written, i, path, here, on, refl)

-- also once dead registers and some numbers are forgotten
known_forgets : (p : Program) (a b : State) → Forgets Coarse p a b → KnowsWritten p a
    → KnowsWritten p b
known_forgets p a b f h =
    let rest = KnowsNumbers-forgets p a b h.known f h.knows in
    let slot : a.slot ≡ b.slot = sym (Forgets-slot p a b f) in record {
      steps = h.steps;
      written = h.written;
      path = subst (λ n. PathTo p h.steps n h.written) slot h.path;
      known = rest.left;
      knows = rest.knows;
      live = λ r live among.
          let before : IsLive p r a.slot = subst (IsLive p r) (sym slot) live in
          rest.live r before (h.live r before among);
    }

step_known : (p : Program) (s t : State) → IsPlain p → StepsTo Coarse p s t → KnowsWritten p s
    → KnowsWritten p t
step_known p s t plain step h =
    let i = step.insn in
    let form = plain.forms s.slot i step.here in
    let set = needs_reads (NumbersIn s) i (needed p s i plain step.here h) in
    let follows =
    StepsToWays-follows p s step.next i step.taken step.first step.other
    (IsPlain-no_calls p plain) h.knows.one step.here step.makes step.among in
    known_forgets p step.next t step.forgets (record {
      steps = suc h.steps;
      written = written_too (writes i) h.written;
      path =
          PathTo-more p h.steps s.slot step.next.slot h.written i h.path step.here
          (follows_by p s.slot step.next.slot i step.here follows);
      known = written_too (writes i) h.known;
      knows =
          KnowsNumbers-makes p s step.first step.other step.next i step.taken h.known form set
          step.makes step.among h.knows;
      live = λ r live among. known_further (writes i) h.written h.known r
          (elim (live_before p s.slot step.next.slot i r step.here
          (plain_calls i form) follows live)
          [ inl is ↦ inl is | inr was_live ↦ inr (h.live r was_live) ]) among;
    })

walk_known : (p : Program) (n : ℕ) (a b : State) → IsPlain p → HasSteps Coarse p n a b
    → KnowsWritten p a
    → KnowsWritten p b
unfolding HasSteps
walk_known p zero a b plain h there = subst (KnowsWritten p) (sym h) there
walk_known p (suc n) a b plain h there =
    walk_known p n h.0 b plain h.2 (step_known p a h.0 plain h.1 there)

start_known : (p : Program) → KnowsWritten p start
unfolding start PathTo
start_known p = record {
  steps = 0;
  written = [];
  path = (refl, refl);
  known = [];
  knows = record { one = refl; room = refl; numbers = λ r among. absurd among };
  live = λ r live among. absurd among;
}

-- ---- what is accepted

stuck_unshown : (p : Program) (e : StepRefusal) (slot : ℕ) → IsPlain p → IsStuck Coarse p e slot
    → ShowsNoAction p.version e
stuck_unshown p e slot plain h =
    let walk = h.walk in
    let there = walk_known p h.steps walk.first h.state plain walk.leads
    (known_forgets p start walk.first walk.starts (start_known p)) in
    let set = needed p h.state h.insn plain h.here there in
    let pass = tests_pass h.state h.insn (needs_reads (NumbersIn h.state) h.insn set)
    (plain.own h.state.slot h.insn h.here) in
    refused_unshown p h.state h.insn e
    (plain.forms h.state.slot h.insn h.here) set there.knows.one pass h.refused

-- ---- refusals and the bound

pub IsPlain-refused : (p : Program) (e : Refusal) (slot : ℕ) → IsRefused p e slot → IsPlain p
    → IsOutOfMemory e ⊎ IsUnanswered p e
IsPlain-refused p e slot refused plain =
    let free = IsPlain-no_calls p plain in
    IsRefused-want p e slot (IsUnanswered p) (IsFlow-whole p plain.whole free)
    (λ e slot h. let unshown = stuck_unshown p e slot plain h in (unshown.0, ap Step unshown.1))
    (λ slot h. ComesBack-forward p slot free plain.forward h)
    (λ h. StartTakes-few p free plain.forward h) refused

pub IsPlain-bound : (p : Program) (n : ℕ) → HasNumber p start n → IsPlain p → n ≤ length p.insns
IsPlain-bound p n number plain =
    let most = HasNumber-forward p start n
    (IsPlain-no_calls p plain) plain.forward one_frame-start number in
    omega (arith, most)
