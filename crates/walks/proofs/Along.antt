-- After a step of a walk and a step of the run, the abstract state stays beside the machine state:
-- conditional jumps, stores, and any step.
use Rattle.walks.proofs.Common.{◌≡◌, ◌+◌, ◌<◌, ◌∷◌, ℕ, suc, Some, None, Ok, Bool, true, false, length, arith, refl, sym, ap, ◌∙◌, subst, inl, inr, ◌≢◌, ℤ, ◌^◌, ints, U64, Full64, Reg, Cond, Operand, Constant, Register, Place, Insn, Alu, Neg, MovSx, ByteSwap, LoadNumber, Load, StoreConstant, Store, Jump, JumpLong, JumpIf, Exit, Num, unsigned, holds, Program, fetch, operand_reads, writes, reg, Next, destination, branches, tested, test_of, act, step, jump_distance, FallsTo, Reaches-then, Each, stack_slot_offset, stack_slot_place, IsStackSlotPlace, IsDeterminedForm, IsDetermined, HasKnownStackSlots-store, HasKnownStackSlots-keep, stored, store_acts, store_constant_acts, Kind, State, kind_of, go_to, IsJust, IsJustOperand, Ways, SetsRegister, Sides, Branches, StepsForm, StepsToWays, GoesOnWith, StoresAt, IsHomeLive, IsWholeSlot, WritesSlot}
use Rattle.isa_model.specs.Machine.States as Machine
use Rattle.transfer.specs.declared.Ways.TheVariants as ways
use Rattle.walks.proofs.Accepted.{Each-more}
use Rattle.walks.proofs.Exits.{exited_none}
use Rattle.walks.proofs.OnNumbers.{NumbersIn, Refines-remains, StepsToWays-performs, kind_of-go_to, compared_operand, just_number}
use Rattle.walks.proofs.StackSlots.{PutsSlot, store_puts}
use Rattle.walks.proofs.Beside.{HoldsIf, Mirrored, first, Along, KnowsRegister, read_numbers, just_below}
use Rattle.walks.proofs.StillBeside.{NextAlong, Mirrors-go, not_yet, here_too, still_known, stack_slot_before, still_live, run_acts, goes_along, sets_along, one_next, jump_along}

-- ---- conditional jumps

-- the test compares two numbers that the abstract state knows
record KnownTest (s : State) (t : Machine.State) (c : Cond) : Type 0 where
  x : ℕ
  y : ℕ
  says : test_of t c ≡ Ok (holds c.comparison c.width x y)
  register_is : IsJust (kind_of s c.register) x
  operand_is : IsJustOperand s c.width c.operand y

tested_by : (s : State) (t : Machine.State) (c : Cond) (operand : Operand) (x : ℕ)
    → reg t c.register ≡ Num x → Each (KnowsRegister s t) (operand_reads operand)
    → (y : ℕ) × (tested t c operand ≡ Ok (holds c.comparison c.width x y))
    × IsJustOperand s c.width operand y
tested_by s t c (Constant k) x is set = (unsigned c.width k, rw is refl, refl)
tested_by s t c (Register r) x is set = (set.0.0, rw (is, set.0.1) refl, set.0.2)

tested_there : (s : State) (t : Machine.State) (c : Cond)
    → Each (KnowsRegister s t) (c.register ∷ operand_reads c.operand) → KnownTest s t c
tested_there s t c set =
    let (x, is, just) = set.0 in
    let (y, says, right) = tested_by s t c c.operand x is set.1 in
    record { x = x; y = y; says = says; register_is = just; operand_is = right }

only_goes : (p : Program) (steps : ℕ) (d : IsDetermined p steps) (k : ℕ) (stays goes : Bool)
    (stay go : State) (w : Ways) (a b : State)
    → stays ≡ false → Sides stays goes stay go w a b
    → (u : Machine.State) × Along p steps d (suc k) go u → NextAlong p steps d k w a
only_goes p steps d k true goes stay go w a b none sides along = absurd (cc)
only_goes p steps d k false true stay go w a b none sides along =
    one_next p steps d k w a go along.0 sides.0 sides.1 along.1
only_goes p steps d k false false stay go w a b none sides along =
    subst (λ v. NextAlong p steps d k v a) (sym sides) tt

only_stays : (p : Program) (steps : ℕ) (d : IsDetermined p steps) (k : ℕ) (stays goes : Bool)
    (stay go : State) (w : Ways) (a b : State)
    → goes ≡ false → Sides stays goes stay go w a b
    → (u : Machine.State) × Along p steps d (suc k) stay u → NextAlong p steps d k w a
only_stays p steps d k stays true stay go w a b none sides along = absurd (cc)
only_stays p steps d k true false stay go w a b none sides along =
    one_next p steps d k w a stay along.0 sides.0 sides.1 along.1
only_stays p steps d k false false stay go w a b none sides along =
    subst (λ v. NextAlong p steps d k v a) (sym sides) tt

branch_along : (p : Program) (steps : ℕ) (d : IsDetermined p steps) (k : ℕ) (s : State)
    (t : Machine.State) (c : Cond) (by : ℤ) (i : Insn) (w : Ways) (a b : State)
    → Along p steps d k s t → fetch p t.slot ≡ Some i
    → writes i ≡ None → FallsTo s.slot i (s.slot + 1) → jump_distance i ≡ Some by
    → act p d.run.clock t i ≡ branches t p by (test_of t c)
    → Each (KnowsRegister s t) (c.register ∷ operand_reads c.operand) → Branches p s c by w a b
    → NextAlong p steps d k w a
branch_along p steps d k s t c by i w a b along here silent falls jumps acts set h =
    of (holds c.comparison c.width test.x test.y) refl where
      test : KnownTest s t c
      test = tested_there s t c set

      numbers : Each (NumbersIn s) (c.register ∷ operand_reads c.operand)
      numbers =
          Each-more (KnowsRegister s t) (NumbersIn s) (c.register ∷ operand_reads c.operand)
          (λ r known. just_number (kind_of s r) known.0 known.2) set

      goes_by : (taken : Bool) → holds c.comparison c.width test.x test.y ≡ taken
          → step p d.run.clock t ≡ branches t p by (Ok taken)
      goes_by taken is =
          run_acts p steps d k s t i along here ∙ acts
          ∙ ap (branches t p by) (test.says ∙ ap (λ (x : Bool). Ok x) is)

      of : (taken : Bool) → holds c.comparison c.width test.x test.y ≡ taken
          → NextAlong p steps d k w a
      of true is =
          only_goes p steps d k h.stays h.goes (go_to h.stay (s.slot + 1))
          (go_to h.go (destination p s.slot by)) w a b
          (h.left_there.constants test.x test.y test.register_is test.operand_is
          (λ e. absurd (cc (e, is))))
          h.sides (
            Machine.go_to t (destination p t.slot by),
            goes_along p steps d k s h.go t i (destination p s.slot by)
                (destination p t.slot by) along here silent (goes_by true is)
                (Mirrors-go (λ q. IsHomeLive p q s.slot)
                (λ q. IsHomeLive p q (destination p s.slot by)) s h.go t (destination p s.slot by)
                (destination p t.slot by) (ap (λ n. destination p n by) along.mirrors.slot)
                (Refines-remains c true h.goes s h.go
                (numbers.0, compared_operand s c.operand numbers.1) h.taken_there)
                (still_live p steps d k s t i by (destination p s.slot by) along here silent jumps
                (inr (by, jumps, refl))) along.mirrors),
          )
      of false is =
          only_stays p steps d k h.stays h.goes (go_to h.stay (s.slot + 1))
          (go_to h.go (destination p s.slot by)) w a b
          (h.taken_there.constants test.x test.y test.register_is test.operand_is
          (λ e. absurd (cc (e, is))))
          h.sides (
            Machine.go_to t (t.slot + 1),
            goes_along p steps d k s h.stay t i (s.slot + 1) (t.slot + 1) along here silent
                (goes_by false is)
                (Mirrors-go (λ q. IsHomeLive p q s.slot)
                (λ q. IsHomeLive p q (s.slot + 1)) s h.stay t
                (s.slot + 1) (t.slot + 1) (ap (λ n. n + 1) along.mirrors.slot)
                (Refines-remains c false h.stays s h.stay
                (numbers.0, compared_operand s c.operand numbers.1) h.left_there)
                (still_live p steps d k s t i by (s.slot + 1) along here silent jumps (inl falls))
                along.mirrors),
          )

-- ---- stores

-- different stack slots begin at different places
other_stack_slot : (j n : ℕ) → n ≢ j → IsWholeSlot (stack_slot_place j) n → ⊥
other_stack_slot j n apart (below, is) =
    let same : stack_slot_offset j ≡ stack_slot_offset n = ap (λ (q : Place). q.offset) is in
    apart (omega (arith, ints, same))

-- the instruction at a slot writes stack slot j and no register, and goes on
record StoresSlot (slot : ℕ) (i : Insn) (j : ℕ) : Type 0 where
  silent : writes i ≡ None
  falls : FallsTo slot i (slot + 1)
  keeps : (n : ℕ) → n ≢ j → WritesSlot i n → ⊥
  below : j < 64

-- a number goes into a stack slot
put_along : (p : Program) (steps : ℕ) (d : IsDetermined p steps) (k : ℕ) (s left : State)
    (t : Machine.State) (i : Insn) (j y : ℕ)
    → (along : Along p steps d k s t) → fetch p t.slot ≡ Some i → StoresSlot s.slot i j
    → y < 2 ^ 64 → PutsSlot s left j y
    → act p d.run.clock t i
    ≡ Next (Machine.go_to (stored t along.mirrors.stack.call_frame j y) (t.slot + 1))
    → Along p steps d (suc k) (go_to left (s.slot + 1))
    (Machine.go_to (stored t along.mirrors.stack.call_frame j y) (t.slot + 1))
unfolding stored
put_along p steps d k s left t i j y along here stores fits put acts =
    let m = along.mirrors in
    let u = stored t m.stack.call_frame j y in
    let known = HasKnownStackSlots-store (HoldsIf (λ h. IsHomeLive p h s.slot) s)
    (HoldsIf (λ h. IsHomeLive p h (s.slot + 1)) left) t m.stack j y stores.below fits
    (λ live. put.there)
    (λ n z apart held live.
    put.others n z apart
    (held (stack_slot_before p steps d k s t i (s.slot + 1) n along here (stores.keeps n apart)
    (inl stores.falls) live))) in
    record {
      reached =
          Reaches-then p d.run.clock (first p steps d) k t
          (Machine.go_to u (t.slot + 1)) along.reached
          (run_acts p steps d k s t i along here ∙ acts);
      mirrors = record {
        slot = ap (λ n. n + 1) m.slot;
        one = ap (λ c. length c.items + 1) put.callers ∙ m.one;
        room = put.room ∙ m.room;
        wide = m.wide;
        regs =
            λ r own live.
            subst (Mirrored (reg t r)) (sym (kind_of-go_to left (s.slot + 1) r ∙ put.kinds r))
            (m.regs r own
            (still_known p steps d k s t i (s.slot + 1) along here stores.silent
            (inl stores.falls) r live));
        all_slots = put.all_slots ∙ m.all_slots;
        stack =
            HasKnownStackSlots-keep (HoldsIf (λ h. IsHomeLive p h (s.slot + 1)) left)
            (HoldsIf (λ h. IsHomeLive p h (s.slot + 1)) (go_to left (s.slot + 1))) u
            (Machine.go_to u (t.slot + 1)) known refl refl (λ k z held. held);
      };
      numbers = λ r own. elim (along.numbers r own) [
        | inl free ↦ inl free
        | inr argument ↦
            inr (
              argument.0,
              λ w. not_yet p d.run.clock (first p steps d) t k i along.reached here
                  (λ e. absurd (cc (e, stores.silent))) argument.1 w,
            )
      ];
    }

goes_on_along : (p : Program) (steps : ℕ) (d : IsDetermined p steps) (k : ℕ) (s : State)
    (t : Machine.State) (i : Insn) (j y : ℕ) (source : Kind) (w : Ways) (a : State)
    → (along : Along p steps d k s t)
    → fetch p t.slot ≡ Some i → StoresSlot s.slot i j → IsJust source y → act p d.run.clock t i
    ≡ Next (Machine.go_to (stored t along.mirrors.stack.call_frame j y) (t.slot + 1))
    → w ≡ ways.One → GoesOnWith s (StoresAt p.maps s U64 (stack_slot_place j) source) a
    → NextAlong p steps d k w a
goes_on_along p steps d k s t i j y source w a along here stores just acts one h =
    let all = along.mirrors.all_slots in
    let below = stores.below in
    let put = store_puts s h.left j y source (omega (arith, below, all)) just h.leaving in
    one_next p steps d k w a (go_to h.left (s.slot + 1))
    (Machine.go_to (stored t along.mirrors.stack.call_frame j y) (t.slot + 1)) one h.next
    (put_along p steps d k s h.left t i j y along here stores
    (just_below source y just) put acts)

store_along : (p : Program) (steps : ℕ) (d : IsDetermined p steps) (k : ℕ) (s : State)
    (t : Machine.State) (place : Place) (r : Reg) (w : Ways) (a : State)
    → Along p steps d k s t → IsStackSlotPlace place
    → fetch p t.slot ≡ Some (Store U64 place r) → w ≡ ways.One
    → GoesOnWith s (StoresAt p.maps s U64 place (kind_of s r)) a → NextAlong p steps d k w a
store_along p steps d k s t place r w a along (j, below, is) here one h =
    of (subst (λ q. fetch p t.slot ≡ Some (Store U64 q r)) is here)
    (subst (λ q. GoesOnWith s (StoresAt p.maps s U64 q (kind_of s r)) a) is h) where
      of : fetch p t.slot ≡ Some (Store U64 (stack_slot_place j) r)
          → GoesOnWith s (StoresAt p.maps s U64 (stack_slot_place j) (kind_of s r)) a
          → NextAlong p steps d k w a
      of here h =
          let (y, there, just) =
          (read_numbers p steps d k s t (Store U64 (stack_slot_place j) r) along here).0 in
          goes_on_along p steps d k s t (Store U64 (stack_slot_place j) r) j y
          (kind_of s r) w a along here
          (record { silent = refl; falls = (refl, refl); keeps = other_stack_slot j; below = below })
          just
          (store_acts (HoldsIf (λ q. IsHomeLive p q s.slot) s) p d.run.clock t r j y
          along.mirrors.stack
          below there) one h

store_constant_along : (p : Program) (steps : ℕ) (d : IsDetermined p steps) (k : ℕ) (s : State)
    (t : Machine.State) (place : Place) (n : ℤ) (source : Kind) (w : Ways) (a : State)
    → Along p steps d k s t → IsStackSlotPlace place
    → fetch p t.slot ≡ Some (StoreConstant U64 place n) → IsJust source (unsigned Full64 n)
    → w ≡ ways.One → GoesOnWith s (StoresAt p.maps s U64 place source) a → NextAlong p steps d k w a
store_constant_along p steps d k s t place n source w a along (j, below, is) here just one h =
    of (subst (λ q. fetch p t.slot ≡ Some (StoreConstant U64 q n)) is here)
    (subst (λ q. GoesOnWith s (StoresAt p.maps s U64 q source) a) is h) where
      of : fetch p t.slot ≡ Some (StoreConstant U64 (stack_slot_place j) n)
          → GoesOnWith s (StoresAt p.maps s U64 (stack_slot_place j) source) a
          → NextAlong p steps d k w a
      of here h =
          goes_on_along p steps d k s t (StoreConstant U64 (stack_slot_place j) n) j
          (unsigned Full64 n) source w a along here
          (record { silent = refl; falls = (refl, refl); keeps = other_stack_slot j; below = below })
          just (store_constant_acts
          (HoldsIf (λ q. IsHomeLive p q s.slot) s) p d.run.clock t n j along.mirrors.stack
          below) one h

-- ---- any step

set_next : (p : Program) (steps : ℕ) (d : IsDetermined p steps) (k : ℕ) (s : State)
    (t : Machine.State) (i : Insn) (w : Ways) (a : State)
    → Along p steps d k s t → fetch p t.slot ≡ Some i → w ≡ ways.One → SetsRegister p.maps s i a
    → NextAlong p steps d k w a
set_next p steps d k s t i w a along here one h =
    let (u, next) = sets_along p steps d k s a t i along here h in
    one_next p steps d k w a a u one refl next

performs_along : (p : Program) (steps : ℕ) (d : IsDetermined p steps) (k : ℕ) (s : State)
    (t : Machine.State) (i : Insn) (w : Ways) (a b : State)
    → Along p steps d k s t → fetch p t.slot ≡ Some i → IsDeterminedForm i
    → StepsForm p s i (Ok w) a b → NextAlong p steps d k w a
unfolding act
performs_along p steps d k s t (Jump by) w a b along here form h =
    jump_along p steps d k s t (Jump by) by w a along here refl refl refl (cc (h.0)) h.1
performs_along p steps d k s t (JumpLong by) w a b along here form h =
    jump_along p steps d k s t (JumpLong by) by w a along here refl refl refl (cc (h.0)) h.1
performs_along p steps d k s t (JumpIf c by) w a b along here form h =
    branch_along p steps d k s t c by (JumpIf c by) w a b along here refl (refl, refl) refl refl
    (read_numbers p steps d k s t (JumpIf c by) along here) h
performs_along p steps d k s t Exit w a b along here form h =
    subst (λ v. NextAlong p steps d k v a)
    (sym (exited_none p.version (length s.callers.items) s a w along.mirrors.one h)) tt
performs_along p steps d k s t (Store U64 place r) w a b along here form h =
    store_along p steps d k s t place r w a along form here h.0 h.1
performs_along p steps d k s t (Store size place r) w a b along here form h = absurd form
performs_along p steps d k s t (StoreConstant U64 place n) w a b along here form h =
    store_constant_along p steps d k s t place n h.0 w a along form here h.1 h.2.0 h.2.1
performs_along p steps d k s t (StoreConstant size place n) w a b along here form h = absurd form
performs_along p steps d k s t (Alu v op x source) w a b along here form h =
    set_next p steps d k s t (Alu v op x source) w a along here h.0 h.1
performs_along p steps d k s t (Neg v x) w a b along here form h =
    set_next p steps d k s t (Neg v x) w a along here h.0 h.1
performs_along p steps d k s t (MovSx e x r) w a b along here form h =
    set_next p steps d k s t (MovSx e x r) w a along here h.0 h.1
performs_along p steps d k s t (ByteSwap order span x) w a b along here form h =
    set_next p steps d k s t (ByteSwap order span x) w a along here h.0 h.1
performs_along p steps d k s t (LoadNumber x n) w a b along here form h =
    set_next p steps d k s t (LoadNumber x n) w a along here h.0 h.1
performs_along p steps d k s t (Load size x place) w a b along here form h =
    set_next p steps d k s t (Load size x place) w a along here h.0 h.1
performs_along p steps d k s t i w a b along here form h = absurd form

pub step_along : (p : Program) (steps : ℕ) (d : IsDetermined p steps) (k : ℕ) (s : State)
    (t : Machine.State) (i : Insn) (w : Ways) (a b : State)
    → Along p steps d k s t → fetch p s.slot ≡ Some i
    → StepsToWays p s i w a b → NextAlong p steps d k w a
step_along p steps d k s t i w a b along here makes =
    performs_along p steps d k s t i w a b along (here_too p s t i along.mirrors.slot here)
    (d.forms s.slot i here) (StepsToWays-performs p s i w a b makes)
