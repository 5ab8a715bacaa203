-- Laws of what is counted over a stream.
use Rattle.coverage.proofs.Common.{◌≡◌, ℕ, ◌+◌, ◌*◌, ◌<◌, ◌≤◌, ◌%◌, ◌^◌, ◌==◌, if◌then◌else◌, Bool, true, false, List, [], ◌∷◌, ◌++◌, length, map, cond, count_by, slice_index, Option, append-nil, sym, ap, ◌∙◌, subst, refl, arith, mod-eq_of_lt, mul-le-mul_right, mul-le-mul_left, lit<, length-append, End, Program, State, KeyValues, PacketFrame, max_frames, sum_by-cons, count_by-le-length, checked_rule, contents_after, begun_on, CountsExactly, CountsModulo, states_of, states_in, ends_of, ends_in, steps_by, is_number, is_at, jumps_at, falls_at, takes, ends_by, has_reason, HasCounted, HasCountedFrames, CountsFrames}
use Rattle.isa_model.specs.declared.instructions.Insn.{Insn}
use Rattle.isa_model.specs.Code.Limits.{max_steps}
use Rattle.coverage.specs.declared.slot_hits.SlotHits.{SlotHits}
use Rattle.coverage.specs.declared.stream_hits.StreamHits.{StreamHits}
use Rattle.coverage.proofs.CountedLaws.{count_by-push, CountsModulo-push, Counts-few}
use Rattle.coverage.proofs.RunsLaws.{states_in-push, ends_in-push, states_in-most, ends_in-most}

-- how the counts change that have one more at each index that passes
abbrev pub More : (ℕ → Bool) → List ℕ → List ℕ → Type 0
More test old new =
    (k : ℕ) → k < length old → slice_index new k
    ≡ (if test k then (slice_index old k + 1) % 2 ^ 64 else slice_index old k)

-- a frame that was run
pub HasCountedFrames-run : (p : Program) (limit : ℕ) (start contents : List KeyValues)
    (frames : List PacketFrame) (f : PacketFrame) (old new : StreamHits) (e : End)
    → contents ≡ contents_after (checked_rule p limit) start frames
    → states_of p limit contents f ≡ begun_on p limit (λ k. f.head.time) f.head f.body contents
    → ends_of p limit contents f ≡ e ∷ [] → has_reason f ≡ false
    → HasCountedFrames p limit start frames old
    → (HasCounted old.slots p.insns (states_in p limit start frames)
    → HasCounted new.slots p.insns
    (states_in p limit start frames
    ++ begun_on p limit (λ k. f.head.time) f.head f.body contents))
    → length new.taken.items ≡ length old.taken.items
    → More (λ k. takes limit k e) old.taken.items new.taken.items
    → length new.ended.items ≡ length old.ended.items
    → More (λ k. ends_by k e) old.ended.items new.ended.items
    → new.ran ≡ (old.ran + 1) % 2 ^ 64 → new.skipped ≡ old.skipped
    → HasCountedFrames p limit start (frames ++ f ∷ []) new
HasCountedFrames-run p limit start contents frames f old new e carried states_are ends_are reason so
    slots taken_len taken ended_len ended ran skipped =
    let rule = checked_rule p limit in
    let all_states =
    ap (λ (l : List State). states_in p limit start frames ++ l) (sym states_are)
    ∙ ap (λ (x : List KeyValues). states_in p limit start frames ++ states_of p limit x f) carried
    ∙ sym (states_in-push p limit start frames f) in
    let all_ends = ap (λ (l : List End). ends_in p limit start frames ++ l) (sym ends_are)
    ∙ ap (λ (x : List KeyValues). ends_in p limit start frames ++ ends_of p limit x f) carried
    ∙ sym (ends_in-push p limit start frames f) in
    let one_more = length-append (ends_in p limit start frames) (e ∷ []) in
    let counted = ap (λ (l : List End). length l) all_ends in
    record {
      slots = subst (HasCounted new.slots p.insns) all_states (slots so.slots);
      taken_len = taken_len ∙ so.taken_len;
      taken =
          subst (λ (l : List End). CountsModulo (takes limit) l new.taken.items) all_ends
          (CountsModulo-push (takes limit) (ends_in p limit start frames) e old.taken.items new.taken.items taken_len so.taken
          taken);
      ended_len = ended_len ∙ so.ended_len;
      ended =
          subst (λ (l : List End). CountsModulo ends_by l new.ended.items) all_ends
          (CountsModulo-push ends_by (ends_in p limit start frames) e old.ended.items new.ended.items ended_len so.ended ended);
      ran = wrapped _ _ _ _ ran so.ran (sym counted ∙ one_more);
      skipped = skipped ∙ so.skipped ∙ ap (λ n. n % 2 ^ 64) (sym (unskipped frames f reason));
    }
  where
    wrapped : (new old n m : ℕ) → new ≡ (old + 1) % 2 ^ 64 → old ≡ n % 2 ^ 64 → m ≡ n + 1
        → new ≡ m % 2 ^ 64
    wrapped new old n m e f g = omega (arith, e, f, g)

    unskipped : (frames : List PacketFrame) (f : PacketFrame) → has_reason f ≡ false
        → count_by has_reason (frames ++ f ∷ []) ≡ count_by has_reason frames
    unskipped frames f reason =
        let push = count_by-push has_reason frames f in
        let none = ap {B = ℕ} (λ b. if b then 1 else 0) reason in
        omega (arith, push, none)

-- a frame with a reason
pub HasCountedFrames-skip : (p : Program) (limit : ℕ) (start contents : List KeyValues)
    (frames : List PacketFrame) (f : PacketFrame) (old new : StreamHits)
    → contents ≡ contents_after (checked_rule p limit) start frames
    → states_of p limit contents f ≡ [] → ends_of p limit contents f ≡ [] → has_reason f ≡ true
    → new.slots ≡ old.slots → new.taken.items ≡ old.taken.items
    → new.ended.items ≡ old.ended.items → new.ran ≡ old.ran
    → new.skipped ≡ (old.skipped + 1) % 2 ^ 64
    → HasCountedFrames p limit start frames old
    → HasCountedFrames p limit start (frames ++ f ∷ []) new
HasCountedFrames-skip p limit start contents frames f old new carried no_states no_ends reason slots
    taken ended ran skipped so =
    let all_states = states_in-push p limit start frames f
    ∙ ap (λ (x : List KeyValues). states_in p limit start frames ++ states_of p limit x f)
    (sym carried)
    ∙ ap (λ (l : List State). states_in p limit start frames ++ l) no_states
    ∙ append-nil (states_in p limit start frames) in
    let all_ends = ends_in-push p limit start frames f
    ∙ ap (λ (x : List KeyValues). ends_in p limit start frames ++ ends_of p limit x f)
    (sym carried)
    ∙ ap (λ (l : List End). ends_in p limit start frames ++ l) no_ends
    ∙ append-nil (ends_in p limit start frames) in
    record {
      slots =
          subst (λ (x : SlotHits). HasCounted x p.insns (states_in p limit start (frames ++ f ∷ [])))
          (sym slots) (subst (HasCounted old.slots p.insns) (sym all_states) so.slots);
      taken_len = ap (λ (l : List ℕ). length l) taken ∙ so.taken_len;
      taken =
          subst (CountsModulo (takes limit) (ends_in p limit start (frames ++ f ∷ []))) (sym taken)
          (subst (λ (l : List End). CountsModulo (takes limit) l old.taken.items) (sym all_ends)
          so.taken);
      ended_len = ap (λ (l : List ℕ). length l) ended ∙ so.ended_len;
      ended =
          subst (CountsModulo ends_by (ends_in p limit start (frames ++ f ∷ []))) (sym ended)
          (subst (λ (l : List End). CountsModulo ends_by l old.ended.items) (sym all_ends)
          so.ended);
      ran = ran ∙ so.ran ∙ ap (λ (l : List End). length l % 2 ^ 64) (sym all_ends);
      skipped = wrapped _ _ _ _ skipped so.skipped (one_skipped frames f reason);
    }
  where
    wrapped : (new old n m : ℕ) → new ≡ (old + 1) % 2 ^ 64 → old ≡ n % 2 ^ 64 → m ≡ n + 1
        → new ≡ m % 2 ^ 64
    wrapped new old n m e f g = omega (arith, e, f, g)

    one_skipped : (frames : List PacketFrame) (f : PacketFrame) → has_reason f ≡ true
        → count_by has_reason (frames ++ f ∷ []) ≡ count_by has_reason frames + 1
    one_skipped frames f reason =
        let push = count_by-push has_reason frames f in
        let one = ap {B = ℕ} (λ b. if b then 1 else 0) reason in
        omega (arith, push, one)

-- the counts of a stream are exact
pub CountsFrames-few : (p : Program) (limit : ℕ) (start : List KeyValues)
    (frames : List PacketFrame) (hits : StreamHits) → limit ≤ max_steps
    → length frames ≤ max_frames → HasCountedFrames p limit start frames hits
    → CountsFrames p limit start frames hits
CountsFrames-few p limit start frames hits within few so =
    let most = states_in-most p limit start frames in
    let runs = ends_in-most p limit start frames in
    let reasons = count_by-le-length has_reason frames in
    let less : length (states_in p limit start frames) < 2 ^ 64 = below _ _ _ most few within in
    let less_runs : length (ends_in p limit start frames) < 2 ^ 64 = omega (arith, runs, few) in
    let less_reasons : count_by has_reason frames < 2 ^ 64 = omega (arith, reasons, few) in
    record {
      runs_len = so.slots.runs_len;
      jumped_len = so.slots.jumped_len;
      fell_len = so.slots.fell_len;
      taken_len = so.taken_len;
      ended_len = so.ended_len;
      runs = Counts-few is_at (states_in p limit start frames) hits.slots.runs.items less so.slots.runs;
      jumped = Counts-few (jumps_at p.insns) (states_in p limit start frames) hits.slots.jumped.items less so.slots.jumped;
      fell = Counts-few (falls_at p.insns) (states_in p limit start frames) hits.slots.fell.items less so.slots.fell;
      taken = Counts-few (takes limit) (ends_in p limit start frames) hits.taken.items less_runs so.taken;
      ended = Counts-few ends_by (ends_in p limit start frames) hits.ended.items less_runs so.ended;
      ran = so.ran ∙ mod-eq_of_lt less_runs;
      skipped = so.skipped ∙ mod-eq_of_lt less_reasons;
    }
  where
    below : (n frames limit : ℕ) → n ≤ frames * limit → frames ≤ max_frames → limit ≤ max_steps
        → n < 2 ^ 64
    below n frames limit h f l =
        let one : frames * limit ≤ max_frames * limit = mul-le-mul_right limit f in
        let two : max_frames * limit ≤ max_frames * max_steps = mul-le-mul_left max_frames l in
        let three : max_frames * max_steps < 2 ^ 64 = lit< tt in
        omega (arith, h, one, two, three)

-- the numbers of steps are counted as the ends of runs are
pub steps_counted : (limit : ℕ) (ends : List End) (counts : List ℕ)
    → CountsExactly (takes limit) ends counts
    → CountsExactly is_number (map (steps_by limit) ends) counts
steps_counted limit ends counts so = λ k below. so k below ∙ same k ends
  where
    same : (k : ℕ) (ends : List End)
        → count_by (takes limit k) ends ≡ count_by (is_number k) (map (steps_by limit) ends)
    same k [] = refl
    same k (e ∷ ends) =
        let more = same k ends in
        let a = sum_by-cons (λ (x : End). cond (takes limit k x) 1 0) e ends in
        let b = sum_by-cons (λ (n : ℕ). cond (is_number k n) 1 0) (steps_by limit e)
        (map (steps_by limit) ends) in
        omega (arith, more, a, b)
