-- Laws of the steps of a run that is known to exit.
use Rattle.std.proofs.Common.{◌≡◌, ◌+◌, ◌<◌, ◌∷◌, [], ℕ, zero, suc, Some, Ok, Err, Bool, true, false, List, arith, refl, sym, ap, ◌∙◌, inl, inr, ◌⊎◌, ℤ, if◌then◌else◌, Result}
use Rattle.isa_model.proofs.Common.{list_any, cases_lt, or_parts, Reg, Insn, Alu, Neg, MovSx, ByteSwap, LoadNumber, Load, StoreConstant, Store, Jump, JumpLong, JumpIf, Exit, Value, Num, TrapReason, UnsetRead, ReadOnly, Program, fetch, reads, writes, is_frame_pointer, State, reg, StepResult, Next, Finished, Trapped, is_unset, sets, goes_on, branches, test_of, act, performed, performed_at, step, Ended, after_step, advanced, progress, Reaches, Runs}
use Rattle.isa_model.specs.declared.ends.End.TheVariants.{Trap}
use Rattle.isa_model.proofs.RunLaws.{progress-zero, progress-suc, progress-ended, progress-exit, Runs-same}
use Rattle.isa_model.proofs.EndsLaws.{Reaches-then, Reaches-before}
use Rattle.isa_model.specs.MustAccept.Paths.{IsOneOf}
use Rattle.isa_model.specs.MustAccept.Determined.{IsDeterminedForm}

-- ---- the steps of a run that exits

-- the step after k others exits, or the run goes on
pub record LastStep (p : Program) (clock : ℕ → ℕ) (k steps number : ℕ) (t : State) : Type 0 where
  pub exits : step p clock t ≡ Finished number
  pub last : steps ≡ suc k

pub record NextStep (p : Program) (clock : ℕ → ℕ) (k steps : ℕ) (t : State) : Type 0 where
  pub next : State
  pub goes : step p clock t ≡ Next next
  pub more : suc k < steps

pub run_at : (p : Program) (clock : ℕ → ℕ) (s : State) (steps a k : ℕ) (t : State)
    → Runs p clock s steps a → Reaches p clock s k t
    → LastStep p clock k steps a t ⊎ NextStep p clock k steps t
run_at p clock s zero a k t runs reached = absurd runs
run_at p clock s (suc n) a k t runs reached = of (step p clock t) refl where
  of : (r : StepResult) → step p clock t ≡ r
      → LastStep p clock k (suc n) a t ⊎ NextStep p clock k (suc n) t
  of (Next u) is =
      let there : Reaches p clock s (suc k) u = Reaches-then p clock s k t u reached is in
      elim (cases_lt (suc k) (suc n)) [
        | inl below ↦ inr (record { next = u; goes = is; more = below })
        | inr past ↦
            let over = progress-exit p clock s runs.0 n (suc k) a runs.1 runs.2 past in
            absurd (cc (over, there))
      ]
  of (Finished b) is =
      let same = Runs-same p clock s (suc n) (suc k) a b runs (t, reached, is) in
      inl (record { exits = is ∙ ap Finished (sym same.1); last = same.0 })
  of (Trapped e) is =
      let trapped : progress p clock (suc k) s ≡ Ended (Trap e k) t =
      progress-suc p clock k s ∙ ap (advanced p clock k) reached ∙ ap (after_step k t) is in
      let later = progress-ended p clock s t (Trap e k) (suc k) (suc n) trapped in
      let over = progress-exit p clock s runs.0 n (suc k + suc n) a runs.1 runs.2 (omega arith) in
      absurd (cc (later, over))

pub below_steps : (p : Program) (clock : ℕ → ℕ) (s : State) (steps a k : ℕ) (t : State)
    → Runs p clock s steps a → Reaches p clock s k t → k < steps
below_steps p clock s steps a k t runs reached =
    elim (run_at p clock s steps a k t runs reached) [
      | inl last ↦ let at = last.last in omega (arith, at)
      | inr next ↦ let more = next.more in omega (arith, more)
    ]

-- a run that exits does not trap before
pub no_trap : (p : Program) (clock : ℕ → ℕ) (s : State) (steps a k : ℕ) (t : State) (e : TrapReason)
    → Runs p clock s steps a → Reaches p clock s k t → step p clock t ≡ Trapped e → ⊥
no_trap p clock s steps a k t e runs reached trapped =
    elim (run_at p clock s steps a k t runs reached) [
      | inl last ↦ let exits = last.exits in absurd (cc (exits, trapped))
      | inr next ↦ let goes = next.goes in absurd (cc (goes, trapped))
    ]

-- ---- the tests of registers

-- where no register of a list passes a test, each of them fails it: if none is unset, each is set
pub is_set : (rs : List Reg) (test : Reg → Bool) (r : Reg) → list_any test rs ≡ false → IsOneOf rs r
    → test r ≡ false
is_set [] test r none among = absurd among
is_set (q ∷ rs) test r none (inl same) =
    ap test same ∙ (or_parts (test q) (list_any test rs) none).0
is_set (q ∷ rs) test r none (inr rest) =
    is_set rs test r (or_parts (test q) (list_any test rs) none).1 rest

-- an instruction acts if what it reads is set and it does not write the frame pointer
pub step_acts : (p : Program) (clock : ℕ → ℕ) (t : State) (i : Insn) → fetch p t.slot ≡ Some i
    → list_any (λ r. is_unset (reg t r)) (reads i) ≡ false → is_frame_pointer (writes i) ≡ false
    → step p clock t ≡ act p clock t i
unfolding step
step_acts p clock t i here are_set own =
    let acts : performed p clock t i ≡ act p clock t i = rw (are_set, own) refl in
    ap (performed_at p clock t) here ∙ acts

-- an instruction that reads an unset register traps
pub step_unset : (p : Program) (clock : ℕ → ℕ) (t : State) (i : Insn) → fetch p t.slot ≡ Some i
    → list_any (λ r. is_unset (reg t r)) (reads i) ≡ true
    → (e : TrapReason) × (step p clock t ≡ Trapped e)
unfolding step
step_unset p clock t i here unset =
    let traps : (e : TrapReason) × (performed p clock t i ≡ Trapped e) =
    rw unset (UnsetRead, refl) in
    (traps.0, ap (performed_at p clock t) here ∙ traps.1)

-- ---- a step that finishes is an exit

sets_on : (s : State) (i : Insn) (d : Reg) (r : Result Value TrapReason) (b : ℕ)
    → sets s i d r ≡ Finished b → ⊥
sets_on s i d (Ok v) b h = absurd (cc)
sets_on s i d (Err e) b h = absurd (cc)

branches_on : (s : State) (p : Program) (by : ℤ) (r : Result Bool TrapReason) (b : ℕ)
    → branches s p by r ≡ Finished b → ⊥
branches_on s p by (Ok true) b h = absurd (cc)
branches_on s p by (Ok false) b h = absurd (cc)
branches_on s p by (Err e) b h = absurd (cc)

goes_on_on : (s : State) (i : Insn) (r : Result State TrapReason) (b : ℕ)
    → goes_on s i r ≡ Finished b → ⊥
goes_on_on s i (Ok u) b h = absurd (cc)
goes_on_on s i (Err e) b h = absurd (cc)

act_finishes : (p : Program) (clock : ℕ → ℕ) (s : State) (i : Insn) (b : ℕ) → IsDeterminedForm i
    → act p clock s i ≡ Finished b → i ≡ Exit
unfolding act
act_finishes p clock s (Alu w op d source) b form h = absurd (sets_on s (Alu w op d source) d _ b h)
act_finishes p clock s (Neg w d) b form h = absurd (sets_on s (Neg w d) d _ b h)
act_finishes p clock s (MovSx e d r) b form h = absurd (sets_on s (MovSx e d r) d _ b h)
act_finishes p clock s (ByteSwap order span d) b form h =
    absurd (sets_on s (ByteSwap order span d) d _ b h)
act_finishes p clock s (LoadNumber d n) b form h =
    absurd (sets_on s (LoadNumber d n) d (Ok (Num n)) b h)
act_finishes p clock s (Load size d place) b form h = absurd (sets_on s (Load size d place) d _ b h)
act_finishes p clock s (Store size place r) b form h =
    absurd (goes_on_on s (Store size place r) _ b h)
act_finishes p clock s (StoreConstant size place k) b form h =
    absurd (goes_on_on s (StoreConstant size place k) _ b h)
act_finishes p clock s (Jump by) b form h = absurd (cc)
act_finishes p clock s (JumpLong by) b form h = absurd (cc)
act_finishes p clock s (JumpIf c by) b form h = absurd (branches_on s p by (test_of s c) b h)
act_finishes p clock s Exit b form h = refl
act_finishes p clock s i b form h = absurd form

tests_finish : (x y : Bool) (e f : TrapReason) (r : StepResult) (b : ℕ)
    → (if x then Trapped e else if y then Trapped f else r) ≡ Finished b → r ≡ Finished b
tests_finish true y e f r b h = absurd (cc)
tests_finish false true e f r b h = absurd (cc)
tests_finish false false e f r b h = h

pub step_finishes : (p : Program) (clock : ℕ → ℕ) (s : State) (i : Insn) (b : ℕ)
    → fetch p s.slot ≡ Some i → IsDeterminedForm i → step p clock s ≡ Finished b → i ≡ Exit
unfolding step
step_finishes p clock s i b here determined h =
    let done : performed p clock s i ≡ Finished b = sym (ap (performed_at p clock s) here) ∙ h in
    act_finishes p clock s i b determined
    (tests_finish (list_any (λ r. is_unset (reg s r)) (reads i))
    (is_frame_pointer (writes i)) UnsetRead ReadOnly (act p clock s i) b done)

-- a step before a run
pub Runs-before : (p : Program) (clock : ℕ → ℕ) (s t : State) (n a : ℕ) → step p clock s ≡ Next t
    → Runs p clock t n a → Runs p clock s (suc n) a
Runs-before p clock s t zero a first runs = absurd runs
Runs-before p clock s t (suc n) a first runs =
    (runs.0, Reaches-before p clock s t n runs.0 first runs.1, runs.2)

-- a run of one step
pub Runs-one : (p : Program) (clock : ℕ → ℕ) (s : State) (a : ℕ) → step p clock s ≡ Finished a
    → Runs p clock s 1 a
Runs-one p clock s a h = (s, progress-zero p clock s, h)
