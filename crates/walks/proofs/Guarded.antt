-- Guarded programs are accepted.
use Rattle.walks.proofs.Common.{◌≡◌, ◌≤◌, ◌+◌, ◌<◌, ◌∷◌, [], ℕ, Some, None, Err, false, length, arith, refl, sym, ap, ◌∙◌, subst, inl, inr, ◌⊎◌, ◌≢◌, pos, Full64, U32, size_bytes, unsigned_size, Reg, R0, R1, R2, R3, R4, R10, Mov, Add, Constant, Register, Place, Insn, Alu, Neg, MovSx, ByteSwap, LoadNumber, Load, LoadSx, Jump, JumpLong, JumpIf, Exit, Program, fetch, reads, writes, IsPlainForm, Each, needs, IsFree, IsBodyForm, IsGuarded, is_frame_pointer-other, State, kind_of, start, register_refusal, reads_unset, StepsForm, Step, IsStuck, HasNumber, IsRefused, IsOutOfMemory, IsUnanswered, Coarse}
use Rattle.transfer.specs.declared.refusals.Refusal.{Refusal as StepRefusal}
use Rattle.walks.specs.declared.refusals.Refusal.{Refusal}
use Rattle.walks.proofs.Accepted.{IsFlow-whole, IsRefused-want, needs_reads, tests_pass}
use Rattle.walks.proofs.Forward.{one_frame-start, HasNumber-forward, StartTakes-few, ComesBack-forward}
use Rattle.walks.proofs.Living.{needs_live}
use Rattle.walks.proofs.Exits.{ShowsNoAction}
use Rattle.walks.proofs.OnNumbers.{NumbersIn, RefusesStep-performs, performs_goes}
use Rattle.walks.proofs.OnPackets.{packet_from, field_goes, copy_goes, ahead_goes, load_passes, load_signed_passes, end_test, test_goes}
use Rattle.walks.proofs.GuardedParts.{AtPacket, AtEnd, AtCopy, AtAhead, AtTest, InBody, AtAnswer, AtExit, GuardedPart, part_at, one_insn, IsGuarded-no_calls}
use Rattle.walks.proofs.Guards.{Guards, free_own}
use Rattle.walks.proofs.GuardedBody.{numbers_needed, body_needs}
use Rattle.walks.proofs.GuardedWalks.{plain_form, load_parts, WalksTo-guards}

-- ---- what is not refused

-- the tests of its registers pass, and its form's own, but for an action that is not shown
abbrev Passes : Program → State → Insn → Type 0
Passes p s i =
    (register_refusal s i ≡ None)
    × ((e : StepRefusal) (b c : State) → StepsForm p s i (Err e) b c → ShowsNoAction p.version e)

body_own : (len : ℕ) (i : Insn) → IsPlainForm i → IsBodyForm len i → writes i ≢ Some R10
body_own len (Alu w op d source) plain h = λ e. free_own d h.0 (cc e)
body_own len (Neg w d) plain h = λ e. free_own d h (cc e)
body_own len (MovSx x d r) plain h = λ e. free_own d h.0 (cc e)
body_own len (ByteSwap order span d) plain h = λ e. free_own d h (cc e)
body_own len (LoadNumber d n) plain h = λ e. free_own d h (cc e)
body_own len (Jump by) plain h = λ e. absurd (cc e)
body_own len (JumpLong by) plain h = λ e. absurd (cc e)
body_own len (JumpIf c by) plain h = λ e. absurd (cc e)
body_own len Exit plain h = λ e. absurd (cc e)
body_own len i plain h = absurd plain

load_tests : (s : State) (i : Insn) (d : Reg) (place : Place) (m : ℕ) → reads i ≡ place.base ∷ []
    → writes i ≡ Some d → place.base ≡ R2 → kind_of s R2 ≡ packet_from 0 m → IsFree d
    → register_refusal s i ≡ None
load_tests s i d place m read written base is free =
    let set : reads_unset s i ≡ false = rw (read, base, is) refl in
    let own = is_frame_pointer-other (writes i) (λ e. free_own d free (cc (e, written))) in
    rw (set, own) refl

body_accepted : (p : Program) (len : ℕ) (g : IsGuarded p len) (s : State) (i : Insn)
    → Guards p len g s → 5 ≤ s.slot
    → s.slot < g.tail → fetch p s.slot ≡ Some i → IsBodyForm len i → Passes p s i
body_accepted p len g s (Load size d place) h behind before here body =
    let (own, base, at, offset, inside) = load_parts (size_bytes size) len d place body in
    let (m, is, most) =
    h.proved behind before
    (needs_live p s.slot (Load size d place) R2 here tt (inl (sym base))) in
    let some = g.some in (
      load_tests s (Load size d place) d place m refl refl base is own,
      λ e b c fails.
          absurd (load_passes p.maps s size place m at e (ap (kind_of s) base ∙ is) offset
          (omega (arith, most, some)) (omega (arith, inside, most)) fails),
    )
body_accepted p len g s (LoadSx size d place) h behind before here body =
    let (own, base, at, offset, inside) =
    load_parts (size_bytes (unsigned_size size)) len d place body in
    let (m, is, most) =
    h.proved behind before
    (needs_live p s.slot (LoadSx size d place) R2 here tt (inl (sym base))) in
    let some = g.some in (
      load_tests s (LoadSx size d place) d place m refl refl base is own,
      λ e b c fails.
          absurd (load_signed_passes p.maps s size place m at e (ap (kind_of s) base ∙ is) offset
          (omega (arith, most, some)) (omega (arith, inside, most)) fails),
    )
body_accepted p len g s i h behind before here body =
    let plain = plain_form len i body tt in
    let set = numbers_needed p len g s i h here (body_needs len i plain body) in (
      tests_pass s i (needs_reads (NumbersIn s) i set) (body_own len i plain body),
      λ e b c fails. performs_goes p s i e b c plain set h.knows.one fails,
    )

guards_accepted : (p : Program) (len : ℕ) (g : IsGuarded p len) (s : State) (i : Insn)
    → fetch p s.slot ≡ Some i → Guards p len g s → Passes p s i
guards_accepted p len g s i here h = of (part_at p len s.slot i g here) where
  on_numbers : (i : Insn) → fetch p s.slot ≡ Some i → IsPlainForm i → Each IsFree (needs i)
      → writes i ≢ Some R10 → Passes p s i
  on_numbers i here plain free own =
      let set = numbers_needed p len g s i h here free in (
        tests_pass s i (needs_reads (NumbersIn s) i set) own,
        λ e b c fails. performs_goes p s i e b c plain set h.knows.one fails,
      )

  of : GuardedPart g.tail s.slot → Passes p s i
  of (AtPacket at) =
      let one = one_insn p s.slot 0 i
      (Load U32 R2 (record { base = R1; offset = pos 0 })) at g.packet here in
      subst (Passes p s) one (
        rw (h.context (omega (arith, at))) refl,
        λ e b c fails.
            absurd (field_goes p.maps s R1 (pos 0) e (h.context (omega (arith, at)))
            (inl refl) fails),
      )
  of (AtEnd at) =
      let one = one_insn p s.slot 1 i
      (Load U32 R3 (record { base = R1; offset = pos 4 })) at g.packet_end here in
      subst (Passes p s) one (
        rw (h.context (omega (arith, at))) refl,
        λ e b c fails.
            absurd (field_goes p.maps s R1 (pos 4) e (h.context (omega (arith, at)))
            (inr (inl refl)) fails),
      )
  of (AtCopy at) =
      let one = one_insn p s.slot 2 i (Alu Full64 Mov R4 (Register R2)) at g.copy here in
      subst (Passes p s) one (
        rw (h.packet (omega (arith, at)) (omega (arith, at))) refl,
        λ e b c fails. absurd (copy_goes p.maps s R4 R2 e fails),
      )
  of (AtAhead at) =
      let one = one_insn p s.slot 3 i (Alu Full64 Add R4 (Constant (pos len))) at g.ahead here in
      subst (Passes p s) one (
        rw (h.copied at) refl,
        λ e b c fails.
            absurd (ahead_goes p.maps s R4 0 0 len e (h.copied at)
            (let most = g.most in omega (arith, most)) fails),
      )
  of (AtTest at) =
      let one = one_insn p s.slot 4 i (JumpIf (end_test R4 R3) g.by) at g.test here in
      subst (Passes p s) one (
        rw (h.ahead at, h.packet_end (omega (arith, at)) (omega (arith, at))) refl,
        λ e b c fails.
            absurd (test_goes p s R4 R3 g.by len 0 e b c (h.ahead at)
            (h.packet_end (omega (arith, at)) (omega (arith, at))) fails),
      )
  of (InBody behind before) =
      body_accepted p len g s i h behind before here (g.body s.slot i behind before here)
  of (AtAnswer at) =
      let one = one_insn p s.slot g.tail i
      (Alu Full64 Mov R0 (Constant g.answer)) at g.answers here in
      subst (Passes p s) one
      (on_numbers (Alu Full64 Mov R0 (Constant g.answer)) (here ∙ ap Some (sym one)) tt tt
      (λ e. absurd (cc e)))
  of (AtExit at) =
      let one = one_insn p s.slot (g.tail + 1) i Exit at g.exits here in
      subst (Passes p s) one
      (on_numbers Exit (here ∙ ap Some (sym one)) tt (tt, tt) (λ e. absurd (cc e)))

stuck_unshown : (p : Program) (len : ℕ) (g : IsGuarded p len) (e : StepRefusal) (slot : ℕ)
    → IsStuck Coarse p e slot → ShowsNoAction p.version e
stuck_unshown p len g e slot h =
    let passes =
    guards_accepted p len g h.state h.insn h.here
    (WalksTo-guards p len g h.steps h.state h.walk) in
    RefusesStep-performs p h.state h.insn e (ShowsNoAction p.version e) passes.0 h.refused
    (λ b c performs. passes.1 e b c performs)

-- ---- the class

pub IsGuarded-refused : (p : Program) (len : ℕ) (e : Refusal) (slot : ℕ) → IsRefused p e slot
    → IsGuarded p len → IsOutOfMemory e ⊎ IsUnanswered p e
IsGuarded-refused p len e slot refused g =
    let no_calls = IsGuarded-no_calls p len g in
    IsRefused-want p e slot (IsUnanswered p) (IsFlow-whole p g.whole no_calls)
    (λ e slot h. let unshown = stuck_unshown p len g e slot h in (unshown.0, ap Step unshown.1))
    (λ slot h. ComesBack-forward p slot no_calls g.forward h)
    (λ h. StartTakes-few p no_calls g.forward h) refused

pub IsGuarded-bound : (p : Program) (len n : ℕ) → HasNumber p start n → IsGuarded p len
    → n ≤ length p.insns
IsGuarded-bound p len n number g =
    let most = HasNumber-forward p start n
    (IsGuarded-no_calls p len g) g.forward one_frame-start number in
    omega (arith, most)
