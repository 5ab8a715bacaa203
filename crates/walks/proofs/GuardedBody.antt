-- The body of a guarded program: the registers that its instructions read hold numbers, and its
-- steps keep what is known at each slot.
use Rattle.walks.proofs.Common.{◌≡◌, ◌≤◌, ◌+◌, ◌<◌, ◌∷◌, ℕ, suc, Some, true, List, arith, refl, sym, ap, ◌∙◌, subst, inl, inr, MapDef, Reg, R1, R2, AluOp, Mov, Cond, Operand, Constant, Register, Insn, Alu, Neg, MovSx, ByteSwap, LoadNumber, Load, LoadSx, Jump, JumpLong, JumpIf, Exit, Program, fetch, slots_filled, operand_reads, alu_reads, reads, writes, destination, falls_through, Follows, FallsTo, IsPlainForm, Each, IsOneOf, needs, written_too, PathTo, IsFree, IsFreeOperand, IsBodyForm, IsGuarded, Kind, State, kind_of, with_register, go_to, kind_of-with_other, IsNumberKind, NamesRegister, Ways, StepsToWays, SetsRegister, IsLive, IsAmong}
use Rattle.walks.proofs.Accepted.{Each-all, Each-one}
use Rattle.walks.proofs.Living.{needs_live, live_before, known_further}
use Rattle.walks.proofs.Forward.{StepsToWays-follows, follows_up}
use Rattle.walks.proofs.OnNumbers.{NumbersIn, Made, kind_of-go_to, are_compared, one_among, none_among, side_among}
use Rattle.walks.proofs.KnowsNumbers.{KnowsNumbers-makes}
use Rattle.walks.proofs.OnPackets.{GivesKind}
use Rattle.walks.proofs.Plain.{follows_by, PathTo-more}
use Rattle.walks.proofs.GuardedParts.{IsGuarded-calls, IsGuarded-no_calls}
use Rattle.walks.proofs.Guards.{put_of, known_number, Guards, free_own}

-- ---- the body

free_operand : (source : Operand) → IsFreeOperand source → Each IsFree (operand_reads source)
free_operand (Constant k) h = tt
free_operand (Register r) h = (h, tt)

alu_free : (op : AluOp) (d : Reg) (source : Operand) → IsFree d → IsFreeOperand source
    → Each IsFree (alu_reads op d source)
alu_free Mov d source own h = free_operand source h
alu_free op d source own h = (own, free_operand source h)

pub body_needs : (len : ℕ) (i : Insn) → IsPlainForm i → IsBodyForm len i → Each IsFree (needs i)
body_needs len (Alu w op d source) plain h = alu_free op d source h.0 h.1
body_needs len (Neg w d) plain h = (h, tt)
body_needs len (MovSx e d r) plain h = (h.1, tt)
body_needs len (ByteSwap order span d) plain h = (h, tt)
body_needs len (LoadNumber d n) plain h = tt
body_needs len (Jump by) plain h = tt
body_needs len (JumpLong by) plain h = tt
body_needs len (JumpIf c by) plain h = (h.0, free_operand c.operand h.1)
body_needs len Exit plain h = (tt, tt)
body_needs len i plain h = absurd plain

written_free : (r : Reg) (written : List Reg) → IsFree r → IsOneOf (R1 ∷ written) r
    → IsOneOf written r
written_free r written free (inl same) = absurd (subst IsFree same free)
written_free r written free (inr rest) = rest

-- what an instruction needs is known to be numbers
pub numbers_needed : (p : Program) (len : ℕ) (g : IsGuarded p len) (s : State) (i : Insn)
    → Guards p len g s
    → fetch p s.slot ≡ Some i → Each IsFree (needs i) → Each (NumbersIn s) (needs i)
numbers_needed p len g s i h here free =
    let each = g.written h.steps s.slot h.written i h.path here in
    Each-all (NumbersIn s) (needs i) (λ r among.
    let own = Each-one IsFree (needs i) r free among in
    let live = needs_live p s.slot i r here (IsGuarded-calls p len s.slot i g here) among in
    h.knows.numbers r
    (h.free r own live
    (written_free r h.written own
    (Each-one (IsOneOf (R1 ∷ h.written)) (needs i) r each among))))

-- what is free, written and live is known, one instruction further
more_free : (p : Program) (len : ℕ) (g : IsGuarded p len) (s : State) (next : ℕ) (i : Insn)
    (h : Guards p len g s) → fetch p s.slot ≡ Some i
    → Follows p s.slot next → (r : Reg) → IsFree r → IsLive p r next
    → IsOneOf (written_too (writes i) h.written) r → IsOneOf (written_too (writes i) h.known) r
more_free p len g s next i h here follows r free live among =
    known_further (writes i) h.written h.known r
    (elim (live_before p s.slot next i r here (IsGuarded-calls p len s.slot i g here) follows live)
    [ inl is ↦ inl is | inr was_live ↦ inr (h.free r free was_live) ]) among

freed : (x d : Reg) → Some x ≡ Some d → IsFree x → IsFree d
freed x d is free = let same : x ≡ d = cc is in subst IsFree same free

-- what an instruction of the body writes is free
pub body_free : (len : ℕ) (i : Insn) (d : Reg) → IsBodyForm len i → writes i ≡ Some d → IsFree d
body_free len (Alu w op x source) d h is = freed x d is h.0
body_free len (Neg w x) d h is = freed x d is h
body_free len (MovSx e x r) d h is = freed x d is h.0
body_free len (ByteSwap order span x) d h is = freed x d is h
body_free len (LoadNumber x n) d h is = freed x d is h
body_free len (Load size x place) d h is = freed x d is h.0
body_free len (LoadSx size x place) d h is = freed x d is h.0
body_free len (Jump by) d h is = absurd (cc is)
body_free len (JumpLong by) d h is = absurd (cc is)
body_free len (JumpIf c by) d h is = absurd (cc is)
body_free len Exit d h is = absurd (cc is)
body_free len i d h is = absurd h

-- a form on numbers, after the test
pub plain_step : (p : Program) (len : ℕ) (g : IsGuarded p len) (s t : State) (i : Insn) (w : Ways)
    (a b : State)
    → Guards p len g s → 5 ≤ s.slot → fetch p s.slot ≡ Some i → IsPlainForm i
    → Each (NumbersIn s) (reads i) → StepsToWays p s i w a b → IsAmong w a b t
    → (t.slot < g.tail
    → (s.slot < g.tail) × (kind_of t R2 ≡ kind_of s R2) × (writes i ≡ Some R2 → ⊥))
    → Guards p len g t
plain_step p len g s t i w a b h behind here plain set makes among kept =
    let follows =
    StepsToWays-follows p s t i w a b
    (IsGuarded-no_calls p len g) h.knows.one here makes among in
    let up = follows_up p s.slot t.slot g.forward follows in
    record {
      steps = suc h.steps;
      written = written_too (writes i) h.written;
      known = written_too (writes i) h.known;
      path =
          PathTo-more p h.steps s.slot t.slot h.written i h.path here
          (follows_by p s.slot t.slot i here follows);
      knows = KnowsNumbers-makes p s a b t i w h.known plain set makes among h.knows;
      free = more_free p len g s t.slot i h here follows;
      early = λ k. absurd (omega (arith, k, up, behind));
      context = λ k. absurd (omega (arith, k, up, behind));
      packet = λ k m. absurd (omega (arith, m, up, behind));
      packet_end = λ k m. absurd (omega (arith, m, up, behind));
      copied = λ k. absurd (omega (arith, k, up, behind));
      ahead = λ k. absurd (omega (arith, k, up, behind));
      proved = λ k below live.
          let (before, same, aside) = kept below in
          let was_live : IsLive p R2 s.slot =
          elim (live_before p s.slot t.slot i R2 here
          (IsGuarded-calls p len s.slot i g here) follows live)
          [ inl is ↦ absurd (aside is) | inr was_live ↦ was_live ] in
          let (m, is, most) = h.proved behind before was_live in
          (m, same ∙ is, most);
    }

-- the instruction at a slot where r2 is live is a load into a free register
pub record LoadsInto (p : Program) (slot : ℕ) (i : Insn) (d : Reg) : Type 0 where
  pub written : writes i ≡ Some d
  pub falls : falls_through i ≡ true
  pub one : slots_filled i ≡ 1
  pub loaded : IsLive p R2 slot
  pub free : IsFree d

-- a load of bytes that are proved to be there
pub load_step : (p : Program) (len : ℕ) (g : IsGuarded p len) (s t : State) (i : Insn) (d : Reg)
    (k : Kind) (w : Ways) (a b : State)
    → Guards p len g s → 5 ≤ s.slot → s.slot < g.tail → fetch p s.slot ≡ Some i
    → LoadsInto p s.slot i d → IsNumberKind k → GivesKind s d k w a → IsAmong w a b t → Guards p len g t
load_step p len g s t i d k w a b h behind before here loads number gives among =
    let written = loads.written in
    let own = free_own d loads.free in
    let put = put_of s a b t d k w h.known h.knows own gives among in
    let slot = put.slot in
    let on : FallsTo s.slot i t.slot = (loads.falls, slot ∙ ap (λ n. s.slot + n) (sym loads.one)) in
    record {
      steps = suc h.steps;
      written = d ∷ h.written;
      known = d ∷ h.known;
      path =
          subst (λ o. PathTo p (suc h.steps) t.slot (written_too o h.written)) written
          (PathTo-more p h.steps s.slot t.slot h.written i h.path here (inl on));
      knows = known_number s a b t d k w h.known own number gives among h.knows;
      free = λ r free live among.
          subst (λ o. IsOneOf (written_too o h.known) r) written
          (more_free p len g s t.slot i h here (i, here, inl on) r free live
          (subst (λ o. IsOneOf (written_too o h.written) r) (sym written) among));
      early = λ k. absurd (omega (arith, k, slot, behind));
      context = λ k. absurd (omega (arith, k, slot, behind));
      packet = λ k m. absurd (omega (arith, m, slot, behind));
      packet_end = λ k m. absurd (omega (arith, m, slot, behind));
      copied = λ k. absurd (omega (arith, k, slot, behind));
      ahead = λ k. absurd (omega (arith, k, slot, behind));
      proved = λ k below live.
          let (m, is, most) = h.proved behind before loads.loaded in
          (m, put.others R2 (λ e. subst IsFree (sym e) loads.free) ∙ is, most);
    }

-- r2 stays
sets_aside : (rows : List MapDef) (s a : State) (i : Insn) (d : Reg) → writes i ≡ Some d → IsFree d
    → SetsRegister rows s i a → kind_of a R2 ≡ kind_of s R2
sets_aside rows s a i d written free h =
    let same : h.register ≡ d = cc (sym h.written ∙ written) in
    ap (λ (x : State). kind_of x R2) h.next
    ∙ kind_of-go_to (with_register s h.register h.kind) (s.slot + slots_filled i) R2
    ∙ kind_of-with_other s h.register R2 h.kind (λ e. subst IsFree (sym (e ∙ same)) free)

unnamed : (c : Cond) → IsFree c.register → IsFreeOperand c.operand → NamesRegister c R2 → ⊥
unnamed c left right (inl is) = subst IsFree is left
unnamed c left right (inr is) = subst IsFreeOperand is right

pub body_keeps : (p : Program) (len : ℕ) (s t : State) (i : Insn) (w : Ways) (a b : State)
    → IsPlainForm i
    → Each (NumbersIn s) (reads i) → IsBodyForm len i → Made p s i w a b → IsAmong w a b t
    → kind_of t R2 ≡ kind_of s R2
body_keeps p len s t (Jump by) w a b plain set body makes among =
    ap (λ (x : State). kind_of x R2) (one_among w a b t makes.0 among ∙ makes.1)
    ∙ kind_of-go_to s (destination p s.slot by) R2
body_keeps p len s t (JumpLong by) w a b plain set body makes among =
    ap (λ (x : State). kind_of x R2) (one_among w a b t makes.0 among ∙ makes.1)
    ∙ kind_of-go_to s (destination p s.slot by) R2
body_keeps p len s t (JumpIf c by) w a b plain set body makes among =
    side_among makes.stays makes.goes (go_to makes.stay (s.slot + 1))
    (go_to makes.go (destination p s.slot by)) w a b t
    (λ x. kind_of x R2 ≡ kind_of s R2) makes.sides among
    (kind_of-go_to makes.stay (s.slot + 1) R2
    ∙ makes.left_there.others (are_compared s c set) R2 (unnamed c body.0 body.1))
    (kind_of-go_to makes.go (destination p s.slot by) R2
    ∙ makes.taken_there.others (are_compared s c set) R2 (unnamed c body.0 body.1))
body_keeps p len s t Exit w a b plain set body makes among = absurd (none_among w a b t makes among)
body_keeps p len s t (Alu v op d source) w a b plain set body makes among =
    ap (λ (x : State). kind_of x R2) (one_among w a b t makes.0 among)
    ∙ sets_aside p.maps s a (Alu v op d source) d refl body.0 makes.1
body_keeps p len s t (Neg v d) w a b plain set body makes among =
    ap (λ (x : State). kind_of x R2) (one_among w a b t makes.0 among)
    ∙ sets_aside p.maps s a (Neg v d) d refl body makes.1
body_keeps p len s t (MovSx e d r) w a b plain set body makes among =
    ap (λ (x : State). kind_of x R2) (one_among w a b t makes.0 among)
    ∙ sets_aside p.maps s a (MovSx e d r) d refl body.0 makes.1
body_keeps p len s t (ByteSwap order span d) w a b plain set body makes among =
    ap (λ (x : State). kind_of x R2) (one_among w a b t makes.0 among)
    ∙ sets_aside p.maps s a (ByteSwap order span d) d refl body makes.1
body_keeps p len s t (LoadNumber d n) w a b plain set body makes among =
    ap (λ (x : State). kind_of x R2) (one_among w a b t makes.0 among)
    ∙ sets_aside p.maps s a (LoadNumber d n) d refl body makes.1
body_keeps p len s t i w a b plain set body makes among = absurd plain
