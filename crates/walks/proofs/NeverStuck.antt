-- Walks through a determined program stay beside its run: exploring takes no more steps than the
-- run, and no step is refused.
use Rattle.walks.proofs.Common.{◌≡◌, ◌≤◌, ◌+◌, ◌<◌, ℕ, suc, Some, Err, Bool, true, false, length, arith, refl, sym, ap, ◌∙◌, subst, inl, ◌==◌, List, if◌then◌else◌, MapDef, U64, Full64, Reg, R0, Place, Insn, Alu, Neg, MovSx, ByteSwap, LoadNumber, Load, StoreConstant, Store, Jump, JumpLong, JumpIf, Exit, Value, unsigned, Program, fetch, reads, reg, Finished, Trapped, is_answer, finishes, exits, act, step, IsProgram, Each, stack_slot_place, IsStackSlotPlace, IsDeterminedForm, operands, IsDetermined, below_steps, no_trap, load_acts, Kind, State, kind_of, start, IsNumberKind, IsJust, Ways, LeadsTo, ResultKind, StepsForm, StepsToWays, StoresAt, IsLive, IsHomeLive, IsSlotLive-read, Coarse, Forgets, WalksTo, IsStuck, Takes, Nothing, ItsOwn, OneMore, BothMore}
use Rattle.std.proofs.lemmas.Bool.Decides.{nat_tests}
use Rattle.isa_model.specs.declared.values.Value.TheVariants.{Unset, Num, Ptr}
use Rattle.isa_model.specs.declared.ends.TrapReason.TheVariants.{NoResult, BadAction}
use Rattle.isa_model.specs.Machine.States as Machine
use Rattle.transfer.specs.declared.Ways.TheVariants as ways
use Rattle.transfer.specs.declared.refusals.Refusal.{Refusal as StepRefusal}
use Rattle.transfer.specs.Refusing.{is_unset as is_unset_kind}
use Rattle.transfer.proofs.ExactLaws.{Steps-leads}
use Rattle.walks.proofs.Accepted.{Each-more, sets_pass, number_set}
use Rattle.walks.proofs.Living.{needs_live}
use Rattle.walks.proofs.Exits.{constant_goes}
use Rattle.walks.proofs.OnNumbers.{NumbersIn, RefusesStep-performs, just_number, form_goes}
use Rattle.walks.proofs.StackSlots.{load_goes, store_goes}
use Rattle.walks.proofs.Beside.{HoldsIf, within_place, Mirrored, first, Along, KnowsRegister, read_numbers}
use Rattle.walks.proofs.StillBeside.{run_acts, here_too}
use Rattle.walks.proofs.AlongWalks.{Along-forgets, into_along, walk_along, start_along}

-- the state in which paths begin
pub first_along : (p : Program) (steps : ℕ) (d : IsDetermined p steps) (s : State)
    → Forgets Coarse p start s → Along p steps d 0 s (first p steps d)
first_along p steps d s begins =
    Along-forgets p steps d 0 start s (first p steps d) begins (start_along p steps d)

-- ---- how much is explored

within_run : (p : Program) (steps : ℕ) (d : IsDetermined p steps) (k : ℕ) (s : State)
    (t : Machine.State)
    → Along p steps d k s t → k < steps
within_run p steps d k s t along =
    below_steps p d.run.clock (first p steps d) steps d.run.number k t d.run.runs along.reached

pub takes_along : (p : Program) (steps : ℕ) (d : IsDetermined p steps) (k : ℕ) (s : State)
    (t : Machine.State) (n : ℕ)
    → Along p steps d k s t → Takes p s n → n + k ≤ steps
takes_along p steps d k s t n along (Nothing _ _ is) =
    let below = within_run p steps d k s t along in omega (arith, below, is)
takes_along p steps d k s t n along (ItsOwn _ _ begins is) =
    let below = within_run p steps d k s t along in omega (arith, below, is)
takes_along p steps d k s t n along (OneMore _ a b m _ step rest is) =
    let (u, next) = into_along p steps d k s t ways.One a b along step in
    let few = takes_along p steps d (suc k) a u m next rest in
    omega (arith, few, is)
takes_along p steps d k s t n along (BothMore _ a b i j _ step left right is) =
    absurd (into_along p steps d k s t ways.Two a b along step)

-- ---- nothing is refused

-- the operands of an instruction are numbers
numbers_along : (p : Program) (steps : ℕ) (d : IsDetermined p steps) (k : ℕ) (s : State)
    (t : Machine.State) (i : Insn)
    → Along p steps d k s t → fetch p s.slot ≡ Some i
    → Each (NumbersIn s) (operands i)
numbers_along p steps d k s t i along here =
    Each-more (KnowsRegister s t) (NumbersIn s) (operands i)
    (λ r known. just_number (kind_of s r) known.0 known.2)
    (read_numbers p steps d k s t i along (here_too p s t i along.mirrors.slot here))

base_set : (s : State) (place : Place) → IsStackSlotPlace place
    → is_unset_kind (kind_of s place.base) ≡ false
base_set s place (j, below, is) = ap (λ q. is_unset_kind (kind_of s q.base)) is

-- so all registers that it reads are set
reads_set : (s : State) (i : Insn) → IsDeterminedForm i → Each (NumbersIn s) (operands i)
    → Each (λ r. is_unset_kind (kind_of s r) ≡ false) (reads i)
reads_set s (Load U64 d place) form set = (base_set s place form, tt)
reads_set s (Load size d place) form set = absurd form
reads_set s (Store U64 place r) form set =
    (base_set s place form, (number_set (kind_of s r) set.0, tt))
reads_set s (Store size place r) form set = absurd form
reads_set s (StoreConstant U64 place n) form set = (base_set s place form, tt)
reads_set s (StoreConstant size place n) form set = absurd form
reads_set s i form set =
    Each-more (NumbersIn s) (λ r. is_unset_kind (kind_of s r) ≡ false) (reads i)
    (λ r h. number_set (kind_of s r) h) set

pub steps_leads : (p : Program) (steps : ℕ) (d : IsDetermined p steps) (k : ℕ) (s : State)
    (t : Machine.State) (i : Insn) (w : Ways) (a b : State)
    → IsProgram p → Along p steps d k s t → fetch p s.slot ≡ Some i
    → StepsToWays p s i w a b → LeadsTo p s w a b
steps_leads p steps d k s t i w a b program along here makes =
    Steps-leads p s i w a b program here makes

-- an exit of the run finds a number in r0, which is known, and may be the answer
exit_answer : (p : Program) (steps : ℕ) (d : IsDetermined p steps) (k : ℕ) (s : State)
    (t : Machine.State)
    → Along p steps d k s t → fetch p t.slot ≡ Some Exit
    → (x : ℕ) × IsJust (kind_of s R0) x × (is_answer p.version x ≡ true)
unfolding act
exit_answer p steps d k s t along here =
    of (reg t R0) refl (along.mirrors.regs R0 (λ e. absurd (cc e)) live) where
      live : IsLive p R0 s.slot
      live =
          needs_live p s.slot Exit R0 (ap (fetch p) (sym along.mirrors.slot) ∙ here) tt (inl refl)

      one : (length t.frames == 1) ≡ true
      one = let same : length t.frames ≡ 1 = ap (λ fs. length fs) along.mirrors.stack.only in
          grind (arith, nat_tests, same)

      gives : exits p.version t ≡ finishes p.version (reg t R0)
      gives = rw one refl

      stops : (v : Value) → reg t R0 ≡ v → step p d.run.clock t ≡ finishes p.version v
      stops v is = run_acts p steps d k s t Exit along here ∙ gives ∙ ap (finishes p.version) is

      named : (x : ℕ) (answers : Bool) → reg t R0 ≡ Num x → is_answer p.version x ≡ answers
          → is_answer p.version x ≡ true
      named x true is says = says
      named x false is says =
          absurd (no_trap p d.run.clock
          (first p steps d) steps d.run.number k t BadAction d.run.runs along.reached
          (stops (Num x) is ∙ ap (λ b. if b then Finished x else Trapped BadAction) says))

      of : (v : Value) → reg t R0 ≡ v → Mirrored v (kind_of s R0)
          → (x : ℕ) × IsJust (kind_of s R0) x × (is_answer p.version x ≡ true)
      of Unset is mirrored =
          absurd (no_trap p d.run.clock
          (first p steps d) steps d.run.number k t NoResult d.run.runs along.reached
          (stops Unset is))
      of (Num x) is mirrored = (x, mirrored, named x (is_answer p.version x) is refl)
      of (Ptr r z) is mirrored =
          absurd (no_trap p d.run.clock
          (first p steps d) steps d.run.number k t NoResult d.run.runs along.reached
          (stops (Ptr r z) is))

-- a load finds the number that the run finds
load_along : (p : Program) (steps : ℕ) (d : IsDetermined p steps) (k : ℕ) (s : State)
    (t : Machine.State) (x : Reg) (place : Place) (e : StepRefusal)
    → Along p steps d k s t → fetch p t.slot ≡ Some (Load U64 x place)
    → IsStackSlotPlace place → ResultKind p.maps s (Load U64 x place) (Err e) → ⊥
load_along p steps d k s t x place e along here (j, below, is) h =
    of (subst (λ q. fetch p t.slot ≡ Some (Load U64 x q)) is here)
    (subst (λ q. ResultKind p.maps s (Load U64 x q) (Err e)) is h) where
      of : fetch p t.slot ≡ Some (Load U64 x (stack_slot_place j))
          → ResultKind p.maps s (Load U64 x (stack_slot_place j)) (Err e) → ⊥
      of here h =
          let acts = run_acts p steps d k s t (Load U64 x (stack_slot_place j)) along here in
          let (y, held, is) =
          load_acts
          (HoldsIf (λ q. IsHomeLive p q s.slot) s) p d.run.clock t x j along.mirrors.stack below
          (λ f trap. no_trap p d.run.clock
          (first p steps d) steps d.run.number k t f d.run.runs along.reached
          (acts ∙ trap)) in
          let there : fetch p s.slot ≡ Some (Load U64 x (stack_slot_place j)) =
          ap (fetch p) (sym along.mirrors.slot) ∙ here in
          let live = IsSlotLive-read p j s.slot (Load U64 x (stack_slot_place j)) there
          (within_place x (stack_slot_place j) j below refl) in
          load_goes s j y e below (held live) h

refuses_store : (rows : List MapDef) (s b : State) (place : Place) (source : Kind) (e : StepRefusal)
    → IsStackSlotPlace place → IsNumberKind source → StoresAt rows s U64 place source b (Err e) → ⊥
refuses_store rows s b place source e (j, below, is) number h =
    store_goes s b j source e below number
    (subst (λ q. StoresAt rows s U64 q source b (Err e)) is h)

goes_along_run : (p : Program) (steps : ℕ) (d : IsDetermined p steps) (k : ℕ) (s : State)
    (t : Machine.State) (i : Insn) (e : StepRefusal) (b c : State)
    → Along p steps d k s t → fetch p t.slot ≡ Some i
    → IsDeterminedForm i → Each (NumbersIn s) (operands i) → StepsForm p s i (Err e) b c → ⊥
goes_along_run p steps d k s t (Load U64 x place) e b c along here form set h =
    load_along p steps d k s t x place e along here form h
goes_along_run p steps d k s t (Load size x place) e b c along here form set h = form
goes_along_run p steps d k s t (Store U64 place r) e b c along here form set h =
    refuses_store p.maps s h.0 place (kind_of s r) e form set.0 h.1
goes_along_run p steps d k s t (Store size place r) e b c along here form set h = form
goes_along_run p steps d k s t (StoreConstant U64 place n) e b c along here form set h =
    refuses_store p.maps s h.2.0 place h.0 e form (just_number h.0 (unsigned Full64 n) h.1) h.2.1
goes_along_run p steps d k s t (StoreConstant size place n) e b c along here form set h = form
goes_along_run p steps d k s t Exit e b c along here form set h =
    let (x, just, names) = exit_answer p steps d k s t along here in
    constant_goes p.version (length s.callers.items) s b x e along.mirrors.one just names h
goes_along_run p steps d k s t (Alu v op x source) e b c along here form set h =
    form_goes p s (Alu v op x source) e b c form tt set h
goes_along_run p steps d k s t (Neg v x) e b c along here form set h =
    form_goes p s (Neg v x) e b c form tt set h
goes_along_run p steps d k s t (MovSx y x r) e b c along here form set h =
    form_goes p s (MovSx y x r) e b c form tt set h
goes_along_run p steps d k s t (ByteSwap order span x) e b c along here form set h =
    form_goes p s (ByteSwap order span x) e b c form tt set h
goes_along_run p steps d k s t (LoadNumber x n) e b c along here form set h =
    form_goes p s (LoadNumber x n) e b c form tt set h
goes_along_run p steps d k s t (Jump by) e b c along here form set h =
    form_goes p s (Jump by) e b c form tt set h
goes_along_run p steps d k s t (JumpLong by) e b c along here form set h =
    form_goes p s (JumpLong by) e b c form tt set h
goes_along_run p steps d k s t (JumpIf cond by) e b c along here form set h =
    form_goes p s (JumpIf cond by) e b c form tt set h
goes_along_run p steps d k s t i e b c along here form set h = absurd form

-- a walk from the start stays beside the run
pub walks_along : (p : Program) (steps : ℕ) (d : IsDetermined p steps) (n : ℕ) (s : State)
    → WalksTo Coarse p n s → (u : Machine.State) × Along p steps d (0 + n) s u
walks_along p steps d n s walk =
    walk_along p steps d n 0 walk.first s (first p steps d)
    (first_along p steps d walk.first walk.starts) walk.leads

pub never_stuck : (p : Program) (steps : ℕ) (d : IsDetermined p steps) (e : StepRefusal) (slot : ℕ)
    → IsStuck Coarse p e slot → ⊥
never_stuck p steps d e slot h =
    let (t, along) = walks_along p steps d h.steps h.state h.walk in
    let form = d.forms h.state.slot h.insn h.here in
    let set = numbers_along p steps d (0 + h.steps) h.state t h.insn along h.here in
    let pass = sets_pass h.state h.insn (reads_set h.state h.insn form set)
    (d.own h.state.slot h.insn h.here) in
    RefusesStep-performs p h.state h.insn e ⊥ pass h.refused
    (λ b c performs.
    goes_along_run p steps d (0 + h.steps) h.state t h.insn e b c along
    (here_too p h.state t h.insn along.mirrors.slot h.here) form set performs)
