-- Call frames pushed and popped.
use Rattle.machine.proofs.Common.{◌≡◌, ℕ, zero, suc, ◌+◌, ◌-◌, ◌*◌, ◌<◌, ◌≤◌, List, [], ◌∷◌, ◌++◌, length, length-append, take, replicate, refl, sym, ap, subst, ◌∙◌, arith, add-zero, inl, inr, slice_set, get_or-set_same, get_or-set_other, length-set, slice_index, slice_index_or, cases_lt, length-take-le, get_or-take, get_or_past, bytes_at, length-bytes_at, stack_size, max_call_frames, Value, Unset, Unwritten, R0, Program, State, value_at, reg, call_frame_at, new_call_frame, IsState, frame_end, Saved, Words, saved_at, kept_words, regs_back, word_enter, word_leave, Layout, Represents, RepresentsCells, RepresentsRegisters, RepresentsFrame, RepresentsSaved, RepresentsFrames, Related}
use Rattle.isa_model.specs.declared.values.CallFrame.{CallFrame}
use Rattle.isa_model.specs.Machine.Calls.{saved_registers, regs_within, regs_after, enter, leave, callers, innermost}
use Rattle.machine.proofs.Extending.{ExtendsLayout, put_at-there, with_depth, ExtendsLayout-with_depth, IsLayout-with_depth, register_old, frame_old, saved_old, maps_old}

-- an element of a list with one more at its end
get_push : {X : Type 0} (xs : List X) (x d : X) (k : ℕ) → k < length xs
    → slice_index_or (xs ++ x ∷ []) k d ≡ slice_index_or xs k d
get_push [] x d k h = absurd (omega arith)
get_push (y ∷ xs) x d zero h = refl
get_push (y ∷ xs) x d (suc k) h = get_push xs x d k (omega arith)

get_last : {X : Type 0} (xs : List X) (x d : X) → slice_index_or (xs ++ x ∷ []) (length xs) d ≡ x
get_last [] x d = refl
get_last (y ∷ xs) x d = get_last xs x d

pub cells_unwritten : (a : Layout) (bs : List ℕ) (n : ℕ) → length bs ≡ n
    → RepresentsCells a (replicate n Unwritten) bs
cells_unwritten a [] zero e = tt
cells_unwritten a [] (suc n) e = absurd (omega arith)
cells_unwritten a (b ∷ bs) zero e = absurd (omega arith)
cells_unwritten a (b ∷ bs) (suc n) e = (tt, cells_unwritten a bs n (omega arith))

-- a fact about each index: of the eleven registers, and of all others
pub by_register : (P : ℕ → Type 0) → P 0 → P 1 → P 2 → P 3 → P 4 → P 5 → P 6 → P 7 → P 8 → P 9
    → P 10 → ((k : ℕ) → 11 ≤ k → P k) → (k : ℕ) → P k
by_register P a b c d e f g h i j l more k = elim (cases_lt k 11) [
  | inl lt ↦ below k lt
  | inr ge ↦ more k ge
]
  where
    below : (k : ℕ) → k < 11 → P k
    below zero lt = a
    below (suc zero) lt = b
    below (suc (suc zero)) lt = c
    below (suc (suc (suc zero))) lt = d
    below (suc (suc (suc (suc zero)))) lt = e
    below (suc (suc (suc (suc (suc zero))))) lt = f
    below (suc (suc (suc (suc (suc (suc zero)))))) lt = g
    below (suc (suc (suc (suc (suc (suc (suc zero))))))) lt = h
    below (suc (suc (suc (suc (suc (suc (suc (suc zero)))))))) lt = i
    below (suc (suc (suc (suc (suc (suc (suc (suc (suc zero))))))))) lt = j
    below (suc (suc (suc (suc (suc (suc (suc (suc (suc (suc zero)))))))))) lt = l
    below (suc (suc (suc (suc (suc (suc (suc (suc (suc (suc (suc k))))))))))) lt =
        absurd (omega arith)

-- the registers after the exit of an inner call frame
back_low : (regs kept : List ℕ) (top k : ℕ) → k < 6
    → slice_index (regs_back regs kept top) k ≡ slice_index regs k
back_low regs kept top k h =
    get_or-set_other _ 10 k top 0 (λ e. omega arith) ∙ get_or-set_other _ 9 k _ 0 (λ e. omega arith)
    ∙ get_or-set_other _ 8 k _ 0 (λ e. omega arith)
    ∙ get_or-set_other _ 7 k _ 0 (λ e. omega arith)
    ∙ get_or-set_other regs 6 k _ 0 (λ e. omega arith)

module _ (regs kept : List ℕ) (top : ℕ) (long : length regs ≡ 11) where
  abbrev regs_6 : List ℕ
  regs_6 = slice_set regs 6 (slice_index kept 0)

  abbrev regs_7 : List ℕ
  regs_7 = slice_set regs_6 7 (slice_index kept 1)

  abbrev regs_8 : List ℕ
  regs_8 = slice_set regs_7 8 (slice_index kept 2)

  abbrev regs_9 : List ℕ
  regs_9 = slice_set regs_8 9 (slice_index kept 3)

  l6 : length regs_6 ≡ 11
  l6 = length-set regs 6 (slice_index kept 0) ∙ long

  l7 : length regs_7 ≡ 11
  l7 = length-set regs_6 7 (slice_index kept 1) ∙ l6

  l8 : length regs_8 ≡ 11
  l8 = length-set regs_7 8 (slice_index kept 2) ∙ l7

  l9 : length regs_9 ≡ 11
  l9 = length-set regs_8 9 (slice_index kept 3) ∙ l8

  l10 : length (regs_back regs kept top) ≡ 11
  l10 = length-set regs_9 10 top ∙ l9

  back_6 : slice_index (regs_back regs kept top) 6 ≡ slice_index kept 0
  back_6 = get_or-set_other regs_9 10 6 top 0 (λ e. omega arith)
      ∙ get_or-set_other regs_8 9 6 _ 0 (λ e. omega arith)
      ∙ get_or-set_other regs_7 8 6 _ 0 (λ e. omega arith)
      ∙ get_or-set_other regs_6 7 6 _ 0 (λ e. omega arith)
      ∙ get_or-set_same regs 6 _ 0 (omega (arith, long))

  back_7 : slice_index (regs_back regs kept top) 7 ≡ slice_index kept 1
  back_7 = get_or-set_other regs_9 10 7 top 0 (λ e. omega arith)
      ∙ get_or-set_other regs_8 9 7 _ 0 (λ e. omega arith)
      ∙ get_or-set_other regs_7 8 7 _ 0 (λ e. omega arith)
      ∙ get_or-set_same regs_6 7 _ 0 (omega (arith, l6))

  back_8 : slice_index (regs_back regs kept top) 8 ≡ slice_index kept 2
  back_8 = get_or-set_other regs_9 10 8 top 0 (λ e. omega arith)
      ∙ get_or-set_other regs_8 9 8 _ 0 (λ e. omega arith)
      ∙ get_or-set_same regs_7 8 _ 0 (omega (arith, l7))

  back_9 : slice_index (regs_back regs kept top) 9 ≡ slice_index kept 3
  back_9 = get_or-set_other regs_9 10 9 top 0 (λ e. omega arith)
      ∙ get_or-set_same regs_8 9 _ 0 (omega (arith, l8))

  back_10 : slice_index (regs_back regs kept top) 10 ≡ top
  back_10 = get_or-set_same regs_9 10 top 0 (omega (arith, l9))

module _ (p : Program) (a : Layout) (s : State) (w : Words) (R : Related p a s w)
    (K : IsState p s) where
  -- ---- a call frame pushed

  abbrev n : ℕ
  n = length s.frames

  abbrev next : ℕ
  next = s.next_serial

  -- the new call frame's depth is the number of call frames before it
  abbrev b : Layout
  b = with_depth a next n

  abbrev pub entered : Layout
  entered = with_depth a s.next_serial (length s.frames)

  abbrev f : CallFrame
  f = new_call_frame next (s.slot + 1) (saved_registers s.regs)

  abbrev c : Saved
  c = record { back = w.at + 1; kept = kept_words w.regs }

  abbrev top : ℕ
  top = frame_end (length w.saved + 1)

  E : ExtendsLayout a b next
  E = ExtendsLayout-with_depth a next n

  old_register : (k : ℕ) → Represents b (value_at s.regs k) (slice_index w.regs k)
  old_register k = register_old p s K a b E k (slice_index w.regs k) (R.registers.shown k)

  registers_within : RepresentsRegisters b (regs_within s.regs next) (slice_set w.regs 10 top)
  registers_within =
      let count = R.registers.count in
      let same : (k : ℕ) → k < 10
      → Represents b (value_at s.regs k) (slice_index (slice_set w.regs 10 top) k) =
      (λ k h. subst (Represents b (value_at s.regs k))
      (sym (get_or-set_other w.regs 10 k top 0 (λ e. omega arith))) (old_register k)) in
      let ten : slice_index (slice_set w.regs 10 top) 10 ≡ top =
      get_or-set_same w.regs 10 top 0 (omega arith) in
      let deep : n ≡ length w.saved + 1 = R.frames.depth in
      let P : ℕ → Type 0 = (λ k. Represents b (value_at (regs_within s.regs next) k)
      (slice_index (slice_set w.regs 10 top) k)) in
      record {
        count = length-set w.regs 10 top ∙ R.registers.count;
        shown =
            by_register P tt (same 1 (omega arith)) (same 2 (omega arith)) (same 3 (omega arith))
            (same 4 (omega arith)) (same 5 (omega arith)) tt tt tt tt
            (ten ∙ ap frame_end (sym deep ∙ sym (put_at-there next n a.depth))
            ∙ sym (add-zero (frame_end (b.depth next))))
            (λ k h. subst (λ v. Represents b v (slice_index (slice_set w.regs 10 top) k))
            (sym (get_or_past (regs_within s.regs next) k Unset h)) tt);
      }

  frame_new : n < max_call_frames → (k : ℕ) → k < length (s.frames ++ f ∷ [])
      → RepresentsFrame b (call_frame_at (s.frames ++ f ∷ []) k) k w.frames
  unfolding new_call_frame
  frame_new room k h = elim (cases_lt k n) [
    | inl lt ↦
        subst (λ f. RepresentsFrame b f k w.frames)
        (sym (get_push s.frames f (new_call_frame 0 0 []) k lt))
        (frame_old p s K a b E k w.frames lt (R.frames.frames k lt))
    | inr ge ↦
        let long = length-append s.frames (f ∷ []) in
        let e : n ≡ k = omega arith in
        let block = R.frames.whole in
        subst (λ k. RepresentsFrame b (call_frame_at (s.frames ++ f ∷ []) k) k w.frames) e
        (subst (λ f. RepresentsFrame b f n w.frames)
        (sym (get_last s.frames f (new_call_frame 0 0 [])))
        (record {
          depth = put_at-there next n a.depth;
          cells =
              cells_unwritten b (bytes_at w.frames (n * stack_size) stack_size) stack_size
              (length-bytes_at w.frames (n * stack_size) stack_size (omega arith));
        }))
  ]

  kept_new : (j : ℕ)
      → Represents b (value_at (saved_registers s.regs) j) (slice_index (kept_words w.regs) j)
  kept_new zero = old_register 6
  kept_new (suc zero) = old_register 7
  kept_new (suc (suc zero)) = old_register 8
  kept_new (suc (suc (suc zero))) = old_register 9
  kept_new (suc (suc (suc (suc j)))) = tt

  saved_new : (k : ℕ) → k < length (w.saved ++ c ∷ [])
      → RepresentsSaved b (call_frame_at (s.frames ++ f ∷ []) (k + 1))
      (saved_at (w.saved ++ c ∷ []) k)
  unfolding new_call_frame
  saved_new k h = elim (cases_lt k (length w.saved)) [
    | inl lt ↦
        let deep = R.frames.depth in
        subst (λ f. RepresentsSaved b f (saved_at (w.saved ++ c ∷ []) k))
        (sym (get_push s.frames f (new_call_frame 0 0 []) (k + 1) (omega arith)))
        (subst (RepresentsSaved b (call_frame_at s.frames (k + 1)))
        (sym (get_push w.saved c (record { back = 0; kept = [] }) k lt))
        (saved_old p s K a b E (k + 1) (saved_at w.saved k) (omega arith) (R.frames.saved k lt)))
    | inr ge ↦
        let deep = R.frames.depth in
        let long = length-append w.saved (c ∷ []) in
        let e : length w.saved ≡ k = omega arith in
        let g : n ≡ k + 1 = omega arith in
        subst (λ m. RepresentsSaved b (call_frame_at (s.frames ++ f ∷ []) m)
        (saved_at (w.saved ++ c ∷ []) k)) g
        (subst (λ f. RepresentsSaved b f (saved_at (w.saved ++ c ∷ []) k))
        (sym (get_last s.frames f (new_call_frame 0 0 [])))
        (subst (λ m. RepresentsSaved b f (saved_at (w.saved ++ c ∷ []) m)) e
        (subst (RepresentsSaved b f) (sym (get_last w.saved c (record { back = 0; kept = [] })))
        (record { back = ap (λ n. n + 1) R.slot; kept = kept_new }))))
  ]

  frames_within : n < max_call_frames
      → RepresentsFrames b (s.frames ++ f ∷ []) w.frames (w.saved ++ c ∷ [])
  frames_within room =
      let deep = R.frames.depth in
      let long = length-append s.frames (f ∷ []) in
      let more = length-append w.saved (c ∷ []) in
      record {
        whole = R.frames.whole;
        depth = omega arith;
        frames = frame_new room;
        saved = saved_new;
      }

  pub enter_related : (to : ℕ) → n < max_call_frames → Related p b (enter s to) (word_enter w to)
  enter_related to room = record {
    slot = refl;
    layout = IsLayout-with_depth a (length p.maps) next n room R.layout;
    registers = registers_within;
    frames = frames_within room;
    packet = R.packet;
    end = R.end;
    interface = R.interface;
    queue = R.queue;
    maps = maps_old p s K a b E w.maps R.maps;
    clock_calls = R.clock_calls;
  }

  -- ---- a call frame popped

  pub leave_related : 0 < length w.saved → Related p a (leave s) (word_leave w)
  leave_related called =
      let n : ℕ = length w.saved - 1 in
      let m : ℕ = length s.frames - 1 in
      let top : ℕ = frame_end n in
      let c = saved_at w.saved n in
      let deep = R.frames.depth in
      let few = length-take-le m s.frames (omega arith) in
      let less = length-take-le n w.saved (omega arith) in
      let last : n + 1 ≡ m = omega arith in
      let was : RepresentsSaved a (innermost s.frames) c =
      subst (λ k. RepresentsSaved a (call_frame_at s.frames k) c) last
      (R.frames.saved n (omega arith)) in
      let frame : (k : ℕ) → k < m → call_frame_at (callers s.frames) k ≡ call_frame_at s.frames k =
      (λ k h. get_or-take m s.frames k (new_call_frame 0 0 []) h) in
      let caller : innermost (callers s.frames) ≡ call_frame_at s.frames n =
      ap (λ k. call_frame_at (callers s.frames) (k - 1)) few
      ∙ ap (call_frame_at (callers s.frames)) (let e : m - 1 ≡ n = omega arith in e)
      ∙ frame n (omega arith) in
      let under : a.depth (innermost (callers s.frames)).serial ≡ n =
      ap (λ f. a.depth f.serial) caller ∙ (R.frames.frames n (omega arith)).depth in
      let P : ℕ → Type 0 = (λ k. Represents a
      (value_at (regs_after (reg s R0) (innermost s.frames).saved
      (innermost (callers s.frames)).serial) k)
      (slice_index (regs_back w.regs c.kept top) k)) in
      let show : (v : Value) (x y : ℕ) → x ≡ y → Represents a v y → Represents a v x =
      (λ v x y e h. subst (Represents a v) (sym e) h) in
      let old = (innermost s.frames).saved in
      let count = R.registers.count in
      record {
        slot = was.back;
        layout = R.layout;
        registers = record {
          count = l10 w.regs c.kept top count;
          shown =
              by_register P
              (show (reg s R0) _ _ (back_low w.regs c.kept top 0 (omega arith))
              (R.registers.shown 0)) tt tt tt tt tt
              (show (value_at old 0) _ _ (back_6 w.regs c.kept top count) (was.kept 0))
              (show (value_at old 1) _ _ (back_7 w.regs c.kept top count) (was.kept 1))
              (show (value_at old 2) _ _ (back_8 w.regs c.kept top count) (was.kept 2))
              (show (value_at old 3) _ _ (back_9 w.regs c.kept top count) (was.kept 3))
              (back_10 w.regs c.kept top count ∙ ap frame_end (sym under)
              ∙ sym (add-zero (frame_end (a.depth (innermost (callers s.frames)).serial))))
              (λ k h. subst (λ v. Represents a v (slice_index (regs_back w.regs c.kept top) k))
              (sym (get_or_past
              (regs_after (reg s R0) (innermost s.frames).saved
              (innermost (callers s.frames)).serial) k Unset h)) tt);
        };
        frames = record {
          whole = R.frames.whole;
          depth = omega arith;
          frames =
              λ k h. subst (λ f. RepresentsFrame a f k w.frames) (sym (frame k (omega arith)))
              (R.frames.frames k (omega arith));
          saved =
              λ k h. subst (λ f. RepresentsSaved a f (saved_at (take n w.saved) k))
              (sym (frame (k + 1) (omega arith)))
              (subst (RepresentsSaved a (call_frame_at s.frames (k + 1)))
              (sym (get_or-take n w.saved k (record { back = 0; kept = [] }) (omega arith)))
              (R.frames.saved k (omega arith)));
        };
        packet = R.packet;
        end = R.end;
        interface = R.interface;
        queue = R.queue;
        maps = R.maps;
        clock_calls = R.clock_calls;
      }
