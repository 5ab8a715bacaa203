-- Laws of the definitions in specs/Tracking.
use Rattle.machine.proofs.Common.{◌≡◌, ℕ, zero, suc, ◌<◌, ◌≤◌, length, refl, sym, ap, subst, ◌∙◌, arith, add-one, Bool, true, false, Option, Some, None, if◌then◌else◌, list_any, max_call_frames, UnsetRead, ReadOnly, max_packet, Program, fetch, reads, writes, is_frame_pointer, State, reg, StepResult, Next, Finished, Trapped, is_unset, act, performed_at, step, IsProgram, IsClock, IsState, Words, CanStepTo, EndsSafely, WordsStepTo, WordsReach, Exits, Layout, Related}
use Rattle.isa_model.specs.declared.instructions.Insn.{Insn}
use Rattle.isa_model.specs.declared.instructions.Insn.TheVariants.{Exit}
use Rattle.isa_model.proofs.StepLaws.{IfNext, step_keeps}
use Rattle.isa_model.proofs.RunLaws.{progress-zero}
use Rattle.isa_model.specs.Running.Ends.{After, Ends as ModelEnds}
use Rattle.isa_model.proofs.EndsLaws.{Reaches-then}
use Rattle.word_machine.specs.Effects.{AccessesFit}
use Rattle.machine.proofs.Moves.{OkMove, not_last, moves}
use Rattle.machine.specs.Tracking.{Finishes, Tracks}

-- a step that does not trap has an instruction
fetched : (p : Program) (clock : ℕ → ℕ) (s : State) (P : State → Type 0) → After P (step p clock s)
    → (i : Insn) × (fetch p s.slot ≡ Some i)
unfolding step
fetched p clock s P h = by_fetch (fetch p s.slot) refl h
  where
    by_fetch : (o : Option Insn) → fetch p s.slot ≡ o → After P (performed_at p clock s o)
        → (i : Insn) × (fetch p s.slot ≡ Some i)
    by_fetch None e h = absurd h
    by_fetch (Some i) e h = (i, e)

-- and its instruction does not write r10
not_read_only : (p : Program) (clock : ℕ → ℕ) (s : State) (P : State → Type 0) (i : Insn)
    → fetch p s.slot ≡ Some i → After P (step p clock s)
    → is_frame_pointer (writes i) ≡ false
unfolding step
not_read_only p clock s P i found h =
    by_unset (list_any (λ r. is_unset (reg s r)) (reads i))
    (subst (λ o. After P (performed_at p clock s o)) found h)
  where
    by_r10 : (b : Bool) (r : StepResult) → After P (if b then Trapped ReadOnly else r) → b ≡ false
    by_r10 true r h = absurd h
    by_r10 false r h = refl

    by_unset : (b : Bool)
        → After P (if b then Trapped UnsetRead
        else if is_frame_pointer (writes i) then Trapped ReadOnly else act p clock s i)
        → is_frame_pointer (writes i) ≡ false
    by_unset true h = absurd h
    by_unset false h = by_r10 (is_frame_pointer (writes i)) (act p clock s i) h

module _ (p : Program) (clock : ℕ → ℕ) (program : IsProgram p) (answers : IsClock clock) where
  -- ---- runs that end

  -- a step that does not trap meets what the move needs, and what holds of the next states carries
  -- over to the next words
  carried_over : (P : Words → Type 0) (Q : State → Type 0) (a : Layout) (s : State) (w : Words)
      (R : Related p a s w) (K : IsState p s) (i : Insn) → fetch p s.slot ≡ Some i
      → is_frame_pointer (writes i) ≡ false → (q : StepResult) → After Q q
      → OkMove p clock a s w R K i q → IfNext q (IsState p)
      → ((b : Layout) (t : State) (v : Words) → Related p b t v → IsState p t → Q t → P v)
      → CanStepTo p clock w P
  carried_over P Q a s w R K i found keeps_r10 q ends move keeps rest = by_step q ends move keeps
    where
      shallow : length w.saved < max_call_frames
      shallow = let d = R.frames.depth in let e = K.depth in omega arith

      short : length w.packet ≤ max_packet
      short = let e = ap length R.packet in let f = K.short in omega arith

      by_step : (q : StepResult) → After Q q → OkMove p clock a s w R K i q → IfNext q (IsState p)
          → CanStepTo p clock w P
      by_step (Next t) ends move keeps = record {
        insn = i;
        found = ap (fetch p) R.slot ∙ found;
        fits = move.0;
        keeps_r10 = keeps_r10;
        shallow = shallow;
        short = short;
        after = λ going v m. let (b, related) = move.2 v m in rest b t v related keeps ends;
      }
      by_step (Finished x) ends move keeps = record {
        insn = i;
        found = ap (fetch p) R.slot ∙ found;
        fits = subst (AccessesFit w) (sym move.0.0) tt;
        keeps_r10 = keeps_r10;
        shallow = shallow;
        short = short;
        after = λ going v m. absurd (going move.0);
      }
      by_step (Trapped e) ends move keeps = absurd ends

  -- a run that ends in the model ends in words
  pub related_Ends : (n : ℕ) (a : Layout) (s : State) (w : Words) → Related p a s w → IsState p s
      → ModelEnds p clock s n → EndsSafely p clock w n
  unfolding ModelEnds EndsSafely
  related_Ends zero a s w R K h = absurd h
  related_Ends (suc n) a s w R K h =
      let (i, found) = fetched p clock s (λ t. ModelEnds p clock t n) h in
      carried_over (λ v. EndsSafely p clock v n) (λ t. ModelEnds p clock t n) a s w R K i found
      (not_read_only p clock s (λ t. ModelEnds p clock t n) i found h) (step p clock s) h
      (moves p clock a s w R K i found program)
      (step_keeps p clock s program answers K)
      (λ b t v related keeps ends. related_Ends n b t v related keeps ends)

  -- ---- runs so far

  same_insn : (slot : ℕ) (i j : Insn) → fetch p slot ≡ Some i → fetch p slot ≡ Some j → i ≡ j
  same_insn slot i j e f = let g : Some i ≡ Some j = sym e ∙ f in cc

  -- a run that ends has one more step
  some_left : (s : State) (n : ℕ) → ModelEnds p clock s n
      → (m : ℕ) × (n ≡ suc m) × After (λ t. ModelEnds p clock t m) (step p clock s)
  unfolding ModelEnds
  some_left s zero h = absurd h
  some_left s (suc m) h = (m, refl, h)

  one_more : (s : State) (n k : ℕ) (u v : Words) → Tracks p clock s n k u → WordsStepTo p clock u v
      → Tracks p clock s n (suc k) v
  one_more s n k u v F S =
      let (m, some, ends) = some_left F.state F.left F.ends in
      let found : fetch p F.state.slot ≡ Some S.insn =
      ap (fetch p) (sym F.related.slot) ∙ S.found in
      goes m some (step p clock F.state) refl ends
      (moves p clock F.layout F.state u F.related F.is S.insn found program)
      (step_keeps p clock F.state program answers F.is)
    where
      goes : (m : ℕ) → F.left ≡ suc m → (q : StepResult) → step p clock F.state ≡ q
          → After (λ t. ModelEnds p clock t m) q
          → OkMove p clock F.layout F.state u F.related F.is S.insn q → IfNext q (IsState p)
          → Tracks p clock s n (suc k) v
      goes m some (Next t) e ends move keeps =
          let (b, related) = move.2 v S.moves in
          record {
            state = t;
            layout = b;
            reached = Reaches-then p clock s k F.state t F.reached e;
            is = keeps;
            related = related;
            left = m;
            in_time = let h = F.in_time in omega arith;
            ends = ends;
          }
      goes m some (Finished x) e ends move keeps = absurd (S.goes move.0)
      goes m some (Trapped x) e ends move keeps = absurd ends

  pub related_Reaches : (k n : ℕ) (a : Layout) (s : State) (w v : Words) → Related p a s w
      → IsState p s → ModelEnds p clock s n
      → WordsReach p clock w k v → Tracks p clock s n k v
  unfolding WordsReach
  related_Reaches zero n a s w v R K h r = record {
    state = s;
    layout = a;
    reached = progress-zero p clock s;
    is = K;
    related = subst (Related p a s) (sym r) R;
    left = n;
    in_time = omega arith;
    ends = h;
  }
  related_Reaches (suc k) n a s w v R K h r =
      let (u, before, last) = r in
      one_more s n k u v (related_Reaches k n a s w u R K h before) last

  -- ---- exits

  pub related_Exits : (n : ℕ) (a : Layout) (s : State) (w v : Words) (number steps : ℕ)
      → Related p a s w → IsState p s → ModelEnds p clock s n
      → Exits p clock w number steps v → Finishes p clock s n number steps v
  related_Exits n a s w v number steps R K h e =
      let F = related_Reaches e.before n a s w v R K h e.reached in
      let (m, some, ends) = some_left F.state F.left F.ends in
      let found : fetch p F.state.slot ≡ Some Exit = ap (fetch p) (sym F.related.slot) ∙ e.found in
      record {
        before = e.before;
        follows = F;
        exits =
            finished F m (step p clock F.state) refl ends
            (moves p clock F.layout F.state v F.related F.is Exit found program);
        counted = e.counted ∙ add-one e.before;
        in_time = let c = e.counted in let t = F.in_time in omega arith;
      }
    where
      finished : (F : Tracks p clock s n e.before v) (m : ℕ) (q : StepResult)
          → step p clock F.state ≡ q → After (λ t. ModelEnds p clock t m) q
          → OkMove p clock F.layout F.state v F.related F.is Exit q
          → step p clock F.state ≡ Finished number
      finished F m (Next t) f ends move = absurd (not_last v Exit move.1 (refl, e.outer))
      finished F m (Finished x) f ends move = f ∙ ap Finished (sym (e.answer ∙ move.1))
      finished F m (Trapped x) f ends move = absurd ends
