-- What stays beside a machine state: the same state at another slot, or with a number in a
-- register; what is live before a step; jumps, and forms that set a register.
use Rattle.walks.proofs.Common.{◌≡◌, ◌+◌, ℕ, suc, Some, None, true, length, arith, refl, sym, ap, ◌∙◌, subst, inl, inr, ◌⊎◌, ◌≢◌, ℤ, cases_lt, length-set, get_or-set_same, get_or-set_other, Reg, R1, R10, reg_number, Insn, StoreConstant, Store, Jump, JumpLong, Exit, Value, Program, fetch, slots_filled, writes, reg, set_reg, Next, destination, act, step, falls_through, jump_distance, FallsTo, JumpsTo, Reaches, Reaches-then, WritesIn, IsDetermined, no_trap, step_acts, HasKnownStackSlots-keep, Kind, State, kind_of, with_register, go_to, same_number, reg_number-below, is_frame_pointer-other, same_or_other, kind_of-with_other, slot_at, kind_in, IsJust, Ways, SetsRegister, Home, InRegister, InSlot, IsLive, IsSlotLive, IsHomeLive, WritesSlot, IsSlotLive-read, IsSlotLive-back}
use Rattle.isa_model.specs.declared.values.Value.TheVariants.{Unset, Num, Ptr}
use Rattle.isa_model.specs.Machine.States as Machine
use Rattle.transfer.specs.declared.Ways.TheVariants as ways
use Rattle.walks.proofs.Living.{live_before}
use Rattle.walks.proofs.OnNumbers.{Remains, kind_of-go_to, kind_of-with_own, room-with}
use Rattle.walks.proofs.Beside.{HoldsIf, Mirrored, IsNoPointer, Mirrors, first, Along, none_unset, determined_calls, read_numbers, computed}

-- ---- a step

abbrev pub NextAlong : (p : Program) (steps : ℕ) → IsDetermined p steps → ℕ → Ways → State → Type 0
NextAlong p steps d k ways.None a = Unit {0}
NextAlong p steps d k ways.One a = (u : Machine.State) × Along p steps d (suc k) a u
NextAlong p steps d k ways.Two a = ⊥

mirrored_more : (v : Value) (k l : Kind) → ((x : ℕ) → IsJust k x → IsJust l x) → Mirrored v k
    → Mirrored v l
mirrored_more Unset k l more h = tt
mirrored_more (Num x) k l more h = more x h
mirrored_more (Ptr r z) k l more h = tt

-- the same registers and stack slots at another slot of the code
pub Mirrors-go : (alive more : Home → Type 0) (s b : State) (t : Machine.State) (slot to : ℕ)
    → to ≡ slot → Remains s b
    → ((h : Home) → more h → alive h) → Mirrors alive s t
    → Mirrors more (go_to b slot) (Machine.go_to t to)
Mirrors-go alive more s b t slot to same n less m = record {
  slot = same;
  one = ap (λ c. length c.items + 1) n.callers ∙ m.one;
  room = n.room ∙ m.room;
  wide = m.wide;
  regs =
      λ r own live.
      mirrored_more (reg t r) (kind_of s r) (kind_of (go_to b slot) r)
      (λ x just. subst (λ k. IsJust k x) (sym (kind_of-go_to b slot r)) (n.constants r x just))
      (m.regs r own (less (InRegister r) live));
  all_slots = ap (λ k. length k.slots) n.stack ∙ m.all_slots;
  stack =
      HasKnownStackSlots-keep (HoldsIf alive s) (HoldsIf more (go_to b slot)) t
      (Machine.go_to t to) m.stack refl refl
      (λ k z held live.
      subst (λ x. IsJust (kind_in (slot_at x.slots k)) z) (sym n.stack)
      (held (less (InSlot k) live)));
}

stays : (s : State) → Remains s s
stays s =
    record {
      slot = refl;
      callers = refl;
      stack = refl;
      room = refl;
      numbers = λ r h. h;
      constants = λ r x h. h;
    }

reg_with_own : (t : Machine.State) (r : Reg) (v : Value) → length t.regs ≡ 11
    → reg (set_reg t r v) r ≡ v
reg_with_own t r v wide =
    let below = reg_number-below r in
    get_or-set_same t.regs (reg_number r) v Unset (omega (arith, below, wide))

reg_with_other : (t : Machine.State) (r q : Reg) (v : Value) → q ≢ r
    → reg (set_reg t r v) q ≡ reg t q
reg_with_other t r q v other =
    get_or-set_other t.regs (reg_number r) (reg_number q) v Unset
    (λ same. other (same_number q r same))

one_register : (q r : Reg) → InRegister q ≡ InRegister r → q ≡ r
one_register q r same = cc

no_register : (j : ℕ) (r : Reg) → InSlot j ≡ InRegister r → ⊥
no_register j r same = cc

Mirrors-set : (alive : Home → Type 0) (s : State) (t : Machine.State) (r : Reg) (k : Kind) (n : ℕ)
    → r ≢ R10 → IsJust k n → Mirrors alive s t
    → Mirrors (λ q. (q ≡ InRegister r) ⊎ alive q) (with_register s r k) (set_reg t r (Num n))
Mirrors-set alive s t r k n own just m = record {
  slot = m.slot;
  one = m.one;
  room = room-with s r k ∙ m.room;
  wide = length-set t.regs (reg_number r) (Num n) ∙ m.wide;
  regs = λ q other live. elim (same_or_other q r) [
    | inl same ↦
        subst (λ q. Mirrored (reg (set_reg t r (Num n)) q) (kind_of (with_register s r k) q))
        (sym same)
        (rw (reg_with_own t r (Num n) m.wide, kind_of-with_own s r k own m.room) just)
    | inr apart ↦
        let before : alive (InRegister q) =
        elim live [ inl same ↦ absurd (apart (one_register q r same)) | inr before ↦ before ] in
        rw (reg_with_other t r q (Num n) apart, kind_of-with_other s r q k apart)
        (m.regs q other before)
  ];
  all_slots = m.all_slots;
  stack =
      HasKnownStackSlots-keep (HoldsIf alive s)
      (HoldsIf (λ q. (q ≡ InRegister r) ⊎ alive q) (with_register s r k)) t
      (set_reg t r (Num n)) m.stack refl (reg_with_other t r R10 (Num n) (λ e. own (sym e)))
      (λ j z held live.
      held (elim live [ inl same ↦ absurd (no_register j r same) | inr before ↦ before ]));
}

-- the step itself does not write r1
pub not_yet : (p : Program) (clock : ℕ → ℕ) (from t : Machine.State) (k : ℕ) (i : Insn)
    → Reaches p clock from k t → fetch p t.slot ≡ Some i → writes i ≢ Some R1
    → (WritesIn p clock from k R1 → ⊥) → WritesIn p clock from (suc k) R1 → ⊥
not_yet p clock from t k i reached here other before w =
    elim (cases_lt w.step k) [
      | inl below ↦
          before (record {
            step = w.step;
            before = below;
            state = w.state;
            reached = w.reached;
            insn = w.insn;
            here = w.here;
            writes_it = w.writes_it;
          })
      | inr past ↦
          let early = w.before in
          let same : w.step ≡ k = omega (arith, past, early) in
          let there : Reaches p clock from k w.state =
          subst (λ n. Reaches p clock from n w.state) same w.reached in
          let state : w.state ≡ t = cc (there, reached) in
          let insn : w.insn ≡ i =
          cc (subst (λ (x : Machine.State). fetch p x.slot ≡ Some w.insn) state w.here, here) in
          absurd (other (subst (λ x. writes x ≡ Some R1) insn w.writes_it))
    ]

-- the instruction at the machine state is the one at the abstract state
pub here_too : (p : Program) (s : State) (t : Machine.State) (i : Insn) → t.slot ≡ s.slot
    → fetch p s.slot ≡ Some i → fetch p t.slot ≡ Some i
here_too p s t i same here = ap (fetch p) same ∙ here

-- what is live after the instruction was written by it, or is live before it
live_along : (p : Program) (steps : ℕ) (d : IsDetermined p steps) (k : ℕ) (s : State)
    (t : Machine.State) (i : Insn) (next : ℕ) (r : Reg)
    → Along p steps d k s t → fetch p t.slot ≡ Some i
    → FallsTo s.slot i next ⊎ JumpsTo p s.slot i next
    → IsLive p r next → (writes i ≡ Some r) ⊎ IsLive p r s.slot
live_along p steps d k s t i next r along here on live =
    let there : fetch p s.slot ≡ Some i = ap (fetch p) (sym along.mirrors.slot) ∙ here in
    live_before p s.slot next i r there (determined_calls i (d.forms t.slot i here))
    (i, there, on) live

-- where it writes no register, one is live before it
pub still_known : (p : Program) (steps : ℕ) (d : IsDetermined p steps) (k : ℕ) (s : State)
    (t : Machine.State) (i : Insn) (next : ℕ)
    → Along p steps d k s t → fetch p t.slot ≡ Some i → writes i ≡ None
    → FallsTo s.slot i next ⊎ JumpsTo p s.slot i next
    → (r : Reg) → IsLive p r next → IsLive p r s.slot
still_known p steps d k s t i next along here silent on r live =
    elim (live_along p steps d k s t i next r along here on live) [
      | inl is ↦ absurd (cc (is, silent))
      | inr before ↦ before
    ]

-- a stack slot that the instruction does not write is live before it
pub stack_slot_before : (p : Program) (steps : ℕ) (d : IsDetermined p steps) (k : ℕ) (s : State)
    (t : Machine.State) (i : Insn) (next j : ℕ)
    → Along p steps d k s t → fetch p t.slot ≡ Some i → (WritesSlot i j → ⊥)
    → FallsTo s.slot i next ⊎ JumpsTo p s.slot i next
    → IsSlotLive p j next → IsSlotLive p j s.slot
stack_slot_before p steps d k s t i next j along here keeps on live =
    let there : fetch p s.slot ≡ Some i = ap (fetch p) (sym along.mirrors.slot) ∙ here in
    IsSlotLive-back p j s.slot next i there keeps (i, there, on) live

-- jumps write no stack slot
jumps_keep : (i : Insn) (by : ℤ) → jump_distance i ≡ Some by → (j : ℕ) → WritesSlot i j → ⊥
jumps_keep (Store size place r) by is j h = absurd (cc is)
jumps_keep (StoreConstant size place n) by is j h = absurd (cc is)
jumps_keep i by is j h = h

-- nor do forms that write a register
sets_keep : (i : Insn) (r : Reg) → writes i ≡ Some r → (j : ℕ) → WritesSlot i j → ⊥
sets_keep (Store size place q) r is j h = absurd (cc is)
sets_keep (StoreConstant size place n) r is j h = absurd (cc is)
sets_keep i r is j h = h

-- what is live after a jump is live before it
pub still_live : (p : Program) (steps : ℕ) (d : IsDetermined p steps) (k : ℕ) (s : State)
    (t : Machine.State) (i : Insn) (by : ℤ) (next : ℕ)
    → Along p steps d k s t → fetch p t.slot ≡ Some i → writes i ≡ None → jump_distance i ≡ Some by
    → FallsTo s.slot i next ⊎ JumpsTo p s.slot i next
    → (h : Home) → IsHomeLive p h next → IsHomeLive p h s.slot
still_live p steps d k s t i by next along here silent jumps on (InRegister r) live =
    still_known p steps d k s t i next along here silent on r live
still_live p steps d k s t i by next along here silent jumps on (InSlot j) live =
    stack_slot_before p steps d k s t i next j along here (jumps_keep i by jumps j) on live

-- what is live after a form that writes a register is that register, or is live before it
one_more : (p : Program) (steps : ℕ) (d : IsDetermined p steps) (k : ℕ) (s : State)
    (t : Machine.State) (i : Insn) (q : Reg) (next : ℕ)
    → Along p steps d k s t → fetch p t.slot ≡ Some i → writes i ≡ Some q
    → FallsTo s.slot i next ⊎ JumpsTo p s.slot i next
    → (h : Home) → IsHomeLive p h next → (h ≡ InRegister q) ⊎ IsHomeLive p h s.slot
one_more p steps d k s t i q next along here written on (InRegister r) live =
    elim (live_along p steps d k s t i next r along here on live) [
      | inl is ↦ inl (let same : r ≡ q = cc (is, written) in cc)
      | inr before ↦ inr before
    ]
one_more p steps d k s t i q next along here written on (InSlot j) live =
    inr (stack_slot_before p steps d k s t i next j along here (sets_keep i q written j) on live)

pub run_acts : (p : Program) (steps : ℕ) (d : IsDetermined p steps) (k : ℕ) (s : State)
    (t : Machine.State) (i : Insn)
    → Along p steps d k s t → fetch p t.slot ≡ Some i
    → step p d.run.clock t ≡ act p d.run.clock t i
run_acts p steps d k s t i along here =
    step_acts p d.run.clock t i here (none_unset p steps d k s t i along here)
    (is_frame_pointer-other (writes i) (d.own t.slot i here))

-- a walk stays beside the run at a jump
pub goes_along : (p : Program) (steps : ℕ) (d : IsDetermined p steps) (k : ℕ) (s b : State)
    (t : Machine.State) (i : Insn) (slot to : ℕ)
    → Along p steps d k s t → fetch p t.slot ≡ Some i → writes i ≡ None
    → step p d.run.clock t ≡ Next (Machine.go_to t to)
    → Mirrors (λ h. IsHomeLive p h slot) (go_to b slot) (Machine.go_to t to)
    → Along p steps d (suc k) (go_to b slot) (Machine.go_to t to)
goes_along p steps d k s b t i slot to along here silent goes mirrors = record {
  reached =
      Reaches-then p d.run.clock (first p steps d) k t (Machine.go_to t to) along.reached goes;
  mirrors = mirrors;
  numbers = λ r own. elim (along.numbers r own) [
    | inl free ↦ inl free
    | inr argument ↦
        inr (
          argument.0,
          λ w. not_yet p d.run.clock (first p steps d) t k i along.reached here
              (λ e. absurd (cc (e, silent))) argument.1 w,
        )
  ];
}

-- a form that writes a register falls through
writes_falls : (i : Insn) (r : Reg) → writes i ≡ Some r → falls_through i ≡ true
writes_falls (Jump by) r is = absurd (cc is)
writes_falls (JumpLong by) r is = absurd (cc is)
writes_falls Exit r is = absurd (cc is)
writes_falls i r is = refl

-- a walk stays beside the run at a form that sets a register
pub sets_along : (p : Program) (steps : ℕ) (d : IsDetermined p steps) (k : ℕ) (s a : State)
    (t : Machine.State) (i : Insn)
    → Along p steps d k s t → fetch p t.slot ≡ Some i → SetsRegister p.maps s i a
    → (u : Machine.State) × Along p steps d (suc k) a u
sets_along p steps d k s a t i along here h =
    let acts = run_acts p steps d k s t i along here in
    let there : fetch p s.slot ≡ Some i = ap (fetch p) (sym along.mirrors.slot) ∙ here in
    let c = computed (λ q. IsHomeLive p q s.slot) p d.run.clock s t i h.register h.kind
    (d.forms t.slot i here) (read_numbers p steps d k s t i along here) along.mirrors.stack
    (λ j reads. IsSlotLive-read p j s.slot i there reads)
    (λ e trap. no_trap p d.run.clock
    (first p steps d) steps d.run.number k t e d.run.runs along.reached (acts ∙ trap))
    h.written h.puts in
    let u = Machine.go_to (set_reg t h.register (Num c.number)) (t.slot + slots_filled i) in
    let goes : step p d.run.clock t ≡ Next u = run_acts p steps d k s t i along here ∙ c.acts in
    let next : ℕ = s.slot + slots_filled i in
    let put = Mirrors-set
    (λ q. IsHomeLive p q s.slot) s t h.register h.kind c.number h.own c.just along.mirrors in
    let less : (q : Home) → IsHomeLive p q next
    → (q ≡ InRegister h.register) ⊎ IsHomeLive p q s.slot =
    one_more p steps d k s t i h.register next along here h.written
    (inl (writes_falls i h.register h.written, refl)) in
    let mirrors : Mirrors (λ q. IsHomeLive p q next)
    (go_to (with_register s h.register h.kind) next) u =
    Mirrors-go (λ q. (q ≡ InRegister h.register) ⊎ IsHomeLive p q s.slot) (λ q. IsHomeLive p q next)
    (with_register s h.register h.kind) (with_register s h.register h.kind)
    (set_reg t h.register (Num c.number)) next (t.slot + slots_filled i)
    (ap (λ n. n + slots_filled i) along.mirrors.slot)
    (stays (with_register s h.register h.kind)) less put in (
      u,
      record {
        reached = Reaches-then p d.run.clock (first p steps d) k t u along.reached goes;
        mirrors = subst (λ x. Mirrors (λ q. IsHomeLive p q x.slot) x u) (sym h.next) mirrors;
        numbers = λ q own. elim (same_or_other q h.register) [
          | inl same ↦
              inl (subst (λ q. IsNoPointer (reg u q)) (sym same)
              (subst IsNoPointer
              (sym (reg_with_own t h.register (Num c.number) along.mirrors.wide)) tt))
          | inr apart ↦
              let still : reg u q ≡ reg t q = reg_with_other t h.register q (Num c.number) apart in
              elim (along.numbers q own) [
                | inl free ↦ inl (subst IsNoPointer (sym still) free)
                | inr argument ↦
                    inr (
                      argument.0,
                      λ w. not_yet p d.run.clock (first p steps d) t k i along.reached here
                          (λ e. apart (argument.0 ∙ cc (e, h.written))) argument.1 w,
                    )
              ]
        ];
      },
    )

pub one_next : (p : Program) (steps : ℕ) (d : IsDetermined p steps) (k : ℕ) (w : Ways) (a c : State)
    (u : Machine.State)
    → w ≡ ways.One → a ≡ c → Along p steps d (suc k) c u → NextAlong p steps d k w a
one_next p steps d k w a c u one is along =
    subst (λ v. NextAlong p steps d k v a) (sym one)
    (u, subst (λ x. Along p steps d (suc k) x u) (sym is) along)

pub jump_along : (p : Program) (steps : ℕ) (d : IsDetermined p steps) (k : ℕ) (s : State)
    (t : Machine.State) (i : Insn) (by : ℤ) (w : Ways) (a : State)
    → Along p steps d k s t → fetch p t.slot ≡ Some i → writes i ≡ None → jump_distance i ≡ Some by
    → act p d.run.clock t i ≡ Next (Machine.go_to t (destination p t.slot by)) → w ≡ ways.One
    → a ≡ go_to s (destination p s.slot by) → NextAlong p steps d k w a
jump_along p steps d k s t i by w a along here silent jumps acts one is =
    one_next p steps d k w a (go_to s (destination p s.slot by))
    (Machine.go_to t (destination p t.slot by)) one is
    (goes_along p steps d k s s t i (destination p s.slot by)
    (destination p t.slot by) along here silent (run_acts p steps d k s t i along here ∙ acts)
    (Mirrors-go (λ q. IsHomeLive p q s.slot) (λ q. IsHomeLive p q (destination p s.slot by)) s s t
    (destination p s.slot by) (destination p t.slot by)
    (ap (λ n. destination p n by) along.mirrors.slot) (stays s)
    (still_live p steps d k s t i by (destination p s.slot by) along here silent jumps
    (inr (by, jumps, refl))) along.mirrors))
