-- Walks through a guarded program.
use Rattle.walks.proofs.Common.{◌≡◌, ◌≤◌, ◌+◌, ◌<◌, [], ℕ, zero, suc, Some, arith, refl, sym, ap, ◌∙◌, subst, inl, inr, ◌⊎◌, pos, Full64, U32, size_bytes, unsigned_size, Reg, R0, R1, R2, R3, R4, Mov, Add, Constant, Register, Place, Insn, Alu, Neg, MovSx, ByteSwap, LoadNumber, Load, LoadSx, Jump, JumpLong, JumpIf, Exit, Program, fetch, destination, FallsTo, JumpsTo, IsPlainForm, Each, needs, PathTo, IsFree, IsLoadBefore, IsBodyForm, IsGuarded, State, kind_of, start, Ways, StepsToWays, IsLive, IsAmong, StepsTo, HasSteps, WalksTo, Coarse}
use Rattle.reg_state.specs.declared.kinds.Kind.TheVariants as kind
use Rattle.walks.proofs.Accepted.{needs_reads}
use Rattle.walks.proofs.Forward.{StepsToWays-follows, follows_up}
use Rattle.walks.proofs.Living.{needs_live, live_before}
use Rattle.walks.proofs.OnNumbers.{NumbersIn, StepsToWays-made}
use Rattle.walks.proofs.KnowsNumbers.{KnowsNumbers}
use Rattle.walks.proofs.OnPackets.{packet_from, GivesKind, packet_gives, packet_end_gives, copy_gives, ahead_gives, load_gives, load_signed_gives, end_test, Proves, ShowsNoBytes, test_leaves}
use Rattle.walks.proofs.Plain.{PathTo-more}
use Rattle.walks.proofs.GuardedParts.{AtPacket, AtEnd, AtCopy, AtAhead, AtTest, InBody, AtAnswer, AtExit, GuardedPart, part_at, one_insn, IsGuarded-no_calls}
use Rattle.walks.proofs.Guards.{put_of, known_aside, Guards, start_guards, none_known, prologue, Guards-forgets}
use Rattle.walks.proofs.GuardedBody.{numbers_needed, body_needs, body_free, plain_step, load_step, body_keeps}

-- ---- steps

abbrev pub IsNoLoad : Insn → Type 0
IsNoLoad (Load size d place) = ⊥
IsNoLoad (LoadSx size d place) = ⊥
IsNoLoad i = Unit {0}

pub plain_form : (len : ℕ) (i : Insn) → IsBodyForm len i → IsNoLoad i → IsPlainForm i
plain_form len (Alu w op d source) body none = tt
plain_form len (Neg w d) body none = tt
plain_form len (MovSx e d r) body none = tt
plain_form len (ByteSwap order span d) body none = tt
plain_form len (LoadNumber d n) body none = tt
plain_form len (Jump by) body none = tt
plain_form len (JumpLong by) body none = tt
plain_form len (JumpIf c by) body none = tt
plain_form len Exit body none = tt
plain_form len (Load size d place) body none = absurd none
plain_form len (LoadSx size d place) body none = absurd none
plain_form len i body none = absurd body

pub load_parts : (size len : ℕ) (d : Reg) (place : Place) → IsLoadBefore size len d place
    → IsFree d × (place.base ≡ R2) × (at : ℕ) × (place.offset ≡ pos at) × (at + size ≤ len)
load_parts size len d place h = (h.0, h.1, h.2.0, h.2.1, h.2.2)

-- after the test nothing but numbers was written, and the bytes that the test shows are known to be
-- there
past_test : (p : Program) (len : ℕ) (g : IsGuarded p len) (s t : State) (h : Guards p len g s)
    → s.slot < 5 → 5 ≤ t.slot → ((r : Reg) → IsLive p r t.slot → IsLive p r s.slot)
    → PathTo p (suc h.steps) t.slot h.written → KnowsNumbers t []
    → (5 ≤ t.slot → t.slot < g.tail → (m : ℕ) × (kind_of t R2 ≡ packet_from 0 m) × (len ≤ m))
    → Guards p len g t
past_test p len g s t h below behind back path knows proved = record {
  steps = suc h.steps;
  written = h.written;
  known = [];
  path = path;
  knows = knows;
  free =
      λ r free live among.
      absurd (none_known h.known r (h.early below) (h.free r free (back r live) among));
  early = λ k. absurd (omega (arith, k, behind));
  context = λ k. absurd (omega (arith, k, behind));
  packet = λ k m. absurd (omega (arith, m, behind));
  packet_end = λ k m. absurd (omega (arith, m, behind));
  copied = λ k. absurd (omega (arith, k, behind));
  ahead = λ k. absurd (omega (arith, k, behind));
  proved = λ k m live. proved k m;
}

-- an instruction of the body
body_step : (p : Program) (len : ℕ) (g : IsGuarded p len) (s t : State) (i : Insn) (w : Ways)
    (a b : State)
    → Guards p len g s → 5 ≤ s.slot → s.slot < g.tail → fetch p s.slot ≡ Some i → IsBodyForm len i
    → StepsToWays p s i w a b → IsAmong w a b t → Guards p len g t
body_step p len g s t (Load size d place) w a b h behind before here body made among =
    let (own, base, at, offset, inside) = load_parts (size_bytes size) len d place body in
    let loaded = needs_live p s.slot (Load size d place) R2 here tt (inl (sym base)) in
    let (m, is, most) = h.proved behind before loaded in
    let (k, number, gives) =
    load_gives p s size d place m at w a b (ap (kind_of s) base ∙ is) offset made in
    load_step p len g s t (Load size d place) d k w a b h behind before here
    (record { written = refl; falls = refl; one = refl; loaded = loaded; free = own })
    number gives among
body_step p len g s t (LoadSx size d place) w a b h behind before here body made among =
    let (own, base, at, offset, inside) =
    load_parts (size_bytes (unsigned_size size)) len d place body in
    let loaded = needs_live p s.slot (LoadSx size d place) R2 here tt (inl (sym base)) in
    let (m, is, most) = h.proved behind before loaded in
    let (k, number, gives) =
    load_signed_gives p s size d place m at w a b (ap (kind_of s) base ∙ is) offset made in
    load_step p len g s t (LoadSx size d place) d k w a b h behind before here
    (record { written = refl; falls = refl; one = refl; loaded = loaded; free = own })
    number gives among
body_step p len g s t i w a b h behind before here body made among =
    let plain = plain_form len i body tt in
    let set = needs_reads (NumbersIn s) i
    (numbers_needed p len g s i h here (body_needs len i plain body)) in
    let makes = StepsToWays-made p s i w a b plain h.knows.one made in
    plain_step p len g s t i w a b h behind here plain set made among
    (λ below. (
      before,
      body_keeps p len s t i w a b plain set body makes among,
      λ e. body_free len i R2 body e,
    ))

-- a state that an instruction makes
makes_guards : (p : Program) (len : ℕ) (g : IsGuarded p len) (s t : State) (insn : Insn)
    (taken : Ways) (first other : State) → fetch p s.slot ≡ Some insn
    → StepsToWays p s insn taken first other → IsAmong taken first other t → Guards p len g s
    → Guards p len g t
makes_guards p len g s t insn taken first other there makes among h =
    of (part_at p len s.slot insn g there) where
      back : fetch p s.slot ≡ Some (JumpIf (end_test R4 R3) g.by)
          → FallsTo s.slot (JumpIf (end_test R4 R3) g.by) t.slot
          ⊎ JumpsTo p s.slot (JumpIf (end_test R4 R3) g.by) t.slot
          → (r : Reg) → IsLive p r t.slot → IsLive p r s.slot
      back here on r live =
          elim (live_before p s.slot t.slot (JumpIf (end_test R4 R3) g.by) r here tt
          (JumpIf (end_test R4 R3) g.by, here, on) live) [
            | inl is ↦ absurd (cc is)
            | inr was_live ↦ was_live
          ]

      behind_test : s.slot ≡ 4 → fetch p s.slot ≡ Some (JumpIf (end_test R4 R3) g.by)
          → KnowsNumbers s [] → (Proves len s t × (t.slot ≡ s.slot + 1))
          ⊎ (ShowsNoBytes s t × (t.slot ≡ destination p s.slot g.by))
          → Guards p len g t
      behind_test at here knows (inl (proves, slot)) =
          past_test p len g s t h (omega (arith, at)) (omega (arith, at, slot))
          (back here (inl (refl, slot)))
          (PathTo-more p h.steps s.slot t.slot h.written _ h.path here (inl (refl, slot)))
          (record {
            one = proves.one ∙ knows.one;
            room = proves.room ∙ knows.room;
            numbers = λ r among. absurd among;
          })
          (λ behind below.
          proves.copies R2 0 0 (λ e. absurd (cc e))
          (h.packet (omega (arith, at)) (omega (arith, at))))
      behind_test at here knows (inr (same, slot)) =
          let to = slot ∙ ap (λ n. destination p n g.by) at ∙ g.to_tail in
          let far = g.behind in
          past_test p len g s t h (omega (arith, at)) (omega (arith, to, far))
          (back here (inr (g.by, refl, slot)))
          (PathTo-more p h.steps s.slot t.slot h.written _ h.path here (inr (g.by, refl, slot)))
          (record {
            one = same.one ∙ knows.one;
            room = same.room ∙ knows.room;
            numbers = λ r among. absurd among;
          })
          (λ behind below. absurd (omega (arith, to, below)))

      last_step : (i : Insn) → g.tail ≤ s.slot → fetch p s.slot ≡ Some i → IsPlainForm i
          → Each IsFree (needs i) → StepsToWays p s i taken first other → Guards p len g t
      last_step i past here plain free made =
          let set = needs_reads (NumbersIn s) i (numbers_needed p len g s i h here free) in
          let up = follows_up p s.slot t.slot g.forward
          (StepsToWays-follows p s t i taken first other
          (IsGuarded-no_calls p len g) h.knows.one here made among) in
          let far = g.behind in
          plain_step p len g s t i taken first other h
          (omega (arith, past, far)) here plain set made among
          (λ below. absurd (omega (arith, up, past, below)))

      of : GuardedPart g.tail s.slot → Guards p len g t
      of (AtPacket at) =
          let one = one_insn p s.slot 0 insn
          (Load U32 R2 (record { base = R1; offset = pos 0 })) at g.packet there in
          let made = subst (λ x. StepsToWays p s x taken first other) (sym one) makes in
          let here : fetch p s.slot ≡ Some (Load U32 R2 (record { base = R1; offset = pos 0 })) =
          there
          ∙ ap Some (sym one) in
          let knows = subst (λ ks. KnowsNumbers s ks) (h.early (omega (arith, at))) h.knows in
          let gives : GivesKind s R2 (packet_from 0 0) taken first =
          packet_gives p s R2 R1 taken first other (h.context (omega (arith, at))) made in
          let put = put_of s first other t R2 (packet_from 0 0) taken [] knows
          (λ e. absurd (cc e)) gives among in
          let slot = put.slot in
          prologue p len g s t R2 (Load U32 R2 (record { base = R1; offset = pos 0 })) h
          (omega (arith, at)) here refl (refl, slot) slot (λ x. x)
          (known_aside s first other t R2 (packet_from 0 0) taken gives among knows)
          (record {
            context = λ k. put.others R1 (λ e. absurd (cc e))
                ∙ h.context (omega (arith, at));
            packet = λ k m. put.own;
            packet_end = λ k m. absurd (omega (arith, k, m, slot, at));
            copied = λ k. absurd (omega (arith, k, slot, at));
            ahead = λ k. absurd (omega (arith, k, slot, at));
          })
      of (AtEnd at) =
          let one = one_insn p s.slot 1 insn
          (Load U32 R3 (record { base = R1; offset = pos 4 })) at g.packet_end there in
          let made = subst (λ x. StepsToWays p s x taken first other) (sym one) makes in
          let here : fetch p s.slot ≡ Some (Load U32 R3 (record { base = R1; offset = pos 4 })) =
          there
          ∙ ap Some (sym one) in
          let knows = subst (λ ks. KnowsNumbers s ks) (h.early (omega (arith, at))) h.knows in
          let gives : GivesKind s R3 (kind.PacketEnd) taken first =
          packet_end_gives p s R3 R1 taken first other (h.context (omega (arith, at))) made in
          let put = put_of s first other t R3 (kind.PacketEnd) taken [] knows
          (λ e. absurd (cc e)) gives among in
          let slot = put.slot in
          prologue p len g s t R3 (Load U32 R3 (record { base = R1; offset = pos 4 })) h
          (omega (arith, at)) here refl (refl, slot) slot (λ x. x)
          (known_aside s first other t R3 (kind.PacketEnd) taken gives among knows)
          (record {
            context = λ k. absurd (omega (arith, k, slot, at));
            packet = λ k m. put.others R2 (λ e. absurd (cc e))
                ∙ h.packet (omega (arith, at)) (omega (arith, at));
            packet_end = λ k m. put.own;
            copied = λ k. absurd (omega (arith, k, slot, at));
            ahead = λ k. absurd (omega (arith, k, slot, at));
          })
      of (AtCopy at) =
          let one = one_insn p s.slot 2 insn (Alu Full64 Mov R4 (Register R2)) at g.copy there in
          let made = subst (λ x. StepsToWays p s x taken first other) (sym one) makes in
          let here : fetch p s.slot ≡ Some (Alu Full64 Mov R4 (Register R2)) = there
          ∙ ap Some (sym one) in
          let knows = subst (λ ks. KnowsNumbers s ks) (h.early (omega (arith, at))) h.knows in
          let gives : GivesKind s R4 (packet_from 0 0) taken first =
          copy_gives p s R4 R2 (packet_from 0 0) taken first other
          (h.packet (omega (arith, at)) (omega (arith, at))) made in
          let put = put_of s first other t R4 (packet_from 0 0) taken [] knows
          (λ e. absurd (cc e)) gives among in
          let slot = put.slot in
          prologue p len g s t R4 (Alu Full64 Mov R4 (Register R2)) h (omega (arith, at)) here refl
          (refl, slot) slot (λ x. x)
          (known_aside s first other t R4 (packet_from 0 0) taken gives among knows)
          (record {
            context = λ k. absurd (omega (arith, k, slot, at));
            packet = λ k m. put.others R2 (λ e. absurd (cc e))
                ∙ h.packet (omega (arith, at)) (omega (arith, at));
            packet_end = λ k m. put.others R3 (λ e. absurd (cc e))
                ∙ h.packet_end (omega (arith, at)) (omega (arith, at));
            copied = λ k. put.own;
            ahead = λ k. absurd (omega (arith, k, slot, at));
          })
      of (AtAhead at) =
          let one = one_insn p s.slot 3 insn
          (Alu Full64 Add R4 (Constant (pos len))) at g.ahead there in
          let made = subst (λ x. StepsToWays p s x taken first other) (sym one) makes in
          let here : fetch p s.slot ≡ Some (Alu Full64 Add R4 (Constant (pos len))) = there
          ∙ ap Some (sym one) in
          let knows = subst (λ ks. KnowsNumbers s ks) (h.early (omega (arith, at))) h.knows in
          let gives : GivesKind s R4 (packet_from (0 + len) 0) taken first =
          ahead_gives p s R4 0 0 len taken first other (h.copied at)
          (let most = g.most in omega (arith, most)) made in
          let put = put_of s first other t R4 (packet_from (0 + len) 0) taken [] knows
          (λ e. absurd (cc e)) gives among in
          let slot = put.slot in
          prologue p len g s t R4 (Alu Full64 Add R4 (Constant (pos len))) h
          (omega (arith, at)) here refl (refl, slot) slot (λ x. x)
          (known_aside s first other t R4 (packet_from (0 + len) 0) taken gives among knows)
          (record {
            context = λ k. absurd (omega (arith, k, slot, at));
            packet = λ k m. put.others R2 (λ e. absurd (cc e))
                ∙ h.packet (omega (arith, at)) (omega (arith, at));
            packet_end = λ k m. put.others R3 (λ e. absurd (cc e))
                ∙ h.packet_end (omega (arith, at)) (omega (arith, at));
            copied = λ k. absurd (omega (arith, k, slot, at));
            ahead = λ k. put.own ∙ ap (λ n. packet_from n 0) (omega arith);
          })
      of (AtTest at) =
          let one = one_insn p s.slot 4 insn (JumpIf (end_test R4 R3) g.by) at g.test there in
          let made = subst (λ x. StepsToWays p s x taken first other) (sym one) makes in
          let here : fetch p s.slot ≡ Some (JumpIf (end_test R4 R3) g.by) = there
          ∙ ap Some (sym one) in
          let knows = subst (λ ks. KnowsNumbers s ks) (h.early (omega (arith, at))) h.knows in
          behind_test at here knows
          (test_leaves p s R4 R3 g.by len 0 taken first other t (h.ahead at)
          (h.packet_end (omega (arith, at)) (omega (arith, at))) made among)
      of (InBody behind before) =
          body_step p len g s t insn taken first other h behind before there
          (g.body s.slot insn behind before there) makes among
      of (AtAnswer at) =
          let one = one_insn p s.slot g.tail insn
          (Alu Full64 Mov R0 (Constant g.answer)) at g.answers there in
          let made = subst (λ x. StepsToWays p s x taken first other) (sym one) makes in
          let here : fetch p s.slot ≡ Some (Alu Full64 Mov R0 (Constant g.answer)) = there
          ∙ ap Some (sym one) in
          last_step (Alu Full64 Mov R0 (Constant g.answer)) (omega (arith, at)) here tt tt made
      of (AtExit at) =
          let one = one_insn p s.slot (g.tail + 1) insn Exit at g.exits there in
          let made = subst (λ x. StepsToWays p s x taken first other) (sym one) makes in
          let here : fetch p s.slot ≡ Some Exit = there ∙ ap Some (sym one) in
          last_step Exit (omega (arith, at)) here tt (tt, tt) made

step_guards : (p : Program) (len : ℕ) (g : IsGuarded p len) (s t : State) → StepsTo Coarse p s t
    → Guards p len g s → Guards p len g t
step_guards p len g s t step h =
    Guards-forgets p len g step.next t step.forgets
    (makes_guards p len g s step.next step.insn step.taken step.first step.other step.here
    step.makes step.among h)

walk_guards : (p : Program) (len : ℕ) (g : IsGuarded p len) (n : ℕ) (a b : State)
    → HasSteps Coarse p n a b
    → Guards p len g a → Guards p len g b
unfolding HasSteps
walk_guards p len g zero a b h guards = subst (Guards p len g) (sym h) guards
walk_guards p len g (suc n) a b h guards =
    walk_guards p len g n h.0 b h.2 (step_guards p len g a h.0 h.1 guards)

-- what is known at each state that a walk from the start reaches
pub WalksTo-guards : (p : Program) (len : ℕ) (g : IsGuarded p len) (n : ℕ) (s : State)
    → WalksTo Coarse p n s → Guards p len g s
WalksTo-guards p len g n s walk =
    walk_guards p len g n walk.first s walk.leads
    (Guards-forgets p len g start walk.first walk.starts (start_guards p len g))
