-- Laws of local calls and exits: a state with a call frame pushed or popped is still a state.
use Rattle.isa_model.proofs.Common.{◌≡◌, ◌≢◌, ℕ, ◌+◌, ◌-◌, ◌<◌, ◌≤◌, List, [], ◌∷◌, ◌++◌, map, take, length, slice_index_or, All, AllPairs, sym, ap, ◌∙◌, subst, arith, length-append, append_assoc, refl, flat_map, take-append-add, drop-append_seam, map-append, take-map, length-take-le, get_or-take, length-map, All-get_or, All-push, All-take, All-drop, All-weaker, All-replicate, All-from_recursion, all_pairs_push, R0, Value, Unwritten, CallFrame, Program, State, value_at, reg, frame_pointer, new_call_frame, call_frame_at, max_call_frames, stack_size, saved_registers, regs_within, regs_after, enter, callers, innermost, leave, IsValue, IsCell, IsCallFrame, IsSlot, value_serials, live_serials, IsState}
use Rattle.std.proofs.Math.ListN.{get_or-map as get_or-map_default}
use Rattle.isa_model.proofs.ValueLaws.{IsValue-more, IsCell-more}
use Rattle.isa_model.proofs.StateLaws.{serial_of, value_at_fits}

-- ---- a call frame pushed

-- a call frame's facts with more serials given
pub IsCallFrame-more : (p : Program) (next more : ℕ) (f : CallFrame) → next ≤ more
    → IsCallFrame p next f → IsCallFrame p more f
IsCallFrame-more p next more f le h = record {
  whole = h.whole;
  cells = All-weaker (IsCell (length p.maps) next) (IsCell (length p.maps) more)
      (λ c k. IsCell-more (length p.maps) next more c le k) f.cells h.cells;
  returns = h.returns;
  four = h.four;
  saved = All-weaker (IsValue (length p.maps) next) (IsValue (length p.maps) more)
      (λ v k. IsValue-more (length p.maps) next more v le k) f.saved h.saved;
}

new_call_frame_fits : (p : Program) (next serial slot : ℕ) (saved : List Value)
    → slot ≤ length p.insns
    → length saved ≡ 4 → All (IsValue (length p.maps) next) saved
    → IsCallFrame p next (new_call_frame serial slot saved)
unfolding new_call_frame
new_call_frame_fits p next serial slot saved returns four fit = record {
  whole = refl;
  cells = All-replicate (IsCell (length p.maps) next) stack_size Unwritten tt;
  returns = returns;
  four = four;
  saved = fit;
}

-- of all live serials, those of the call frames come last
call_frame_serials_given : (p : Program) (s : State) → IsState p s
    → All (λ n. n < s.next_serial) (map serial_of s.frames)
call_frame_serials_given p s k =
    let in_maps = flat_map value_serials s.maps in
    let all = k.given in
    subst (All (λ n. n < s.next_serial)) (drop-append_seam in_maps (map serial_of s.frames))
    (All-drop (λ n. n < s.next_serial) (length in_maps) (live_serials s) all)

-- a live call frame's serial was given
pub call_frame_serial_given : (p : Program) (s : State) (j : ℕ) → IsState p s → j < length s.frames
    → (call_frame_at s.frames j).serial < s.next_serial
call_frame_serial_given p s j k here =
    let d : CallFrame = new_call_frame 0 0 [] in
    let long = length-map s.frames serial_of in
    let found : slice_index_or (map serial_of s.frames) j (serial_of d)
    ≡ (call_frame_at s.frames j).serial = get_or-map_default serial_of s.frames j d in
    subst (λ n. n < s.next_serial) found
    (All-get_or (λ n. n < s.next_serial) (map serial_of s.frames) j (serial_of d) (omega arith)
    (call_frame_serials_given p s k))

-- the serial of a new call frame is not that of a live one
serials_push : (xs : List ℕ) (next : ℕ) → All (λ n. n < next) xs → AllPairs (λ m n. m ≢ n) xs
    → All (λ n. n < next + 1) (xs ++ next ∷ []) × AllPairs (λ m n. m ≢ n) (xs ++ next ∷ [])
serials_push xs next given once = (
  All-push (λ n. n < next + 1) xs next
      (All-weaker (λ n. n < next) (λ n. n < next + 1) (λ n h. omega arith) xs given) (omega arith),
  all_pairs_push (λ m n. m ≢ n) xs next once
      (λ k d here same. let below = given k d here in absurd (omega arith)),
)

new_call_frame-serial : (serial slot : ℕ) (saved : List Value)
    → (new_call_frame serial slot saved).serial ≡ serial
unfolding new_call_frame
new_call_frame-serial serial slot saved = refl

pub IsState-enter : (p : Program) (s : State) (target : ℕ) → IsSlot p target
    → s.slot + 1 ≤ length p.insns → length s.frames ≢ max_call_frames
    → IsState p s → IsState p (enter s target)
IsState-enter p s target go back room k =
    let count : ℕ = length p.maps in
    let next : ℕ = s.next_serial in
    let more : ℕ = s.next_serial + 1 in
    let V : Value → Type 0 = IsValue count more in
    let old : (n : ℕ) → IsValue count more (value_at s.regs n) =
    (λ n. IsValue-more count next more (value_at s.regs n) (omega arith)
    (value_at_fits count next s.regs n k.values)) in
    let kept_fit : All V (saved_registers s.regs) =
    All-from_recursion V (saved_registers s.regs) (old 6, (old 7, (old 8, (old 9, tt)))) in
    let f : CallFrame = new_call_frame next (s.slot + 1) (saved_registers s.regs) in
    let frames : All (IsCallFrame p more) s.frames =
    All-weaker (IsCallFrame p next) (IsCallFrame p more)
    (λ f h. IsCallFrame-more p next more f (omega arith) h) s.frames k.frames in
    let long = length-append s.frames (f ∷ []) in
    let in_maps = flat_map value_serials s.maps in
    let serials : in_maps ++ map serial_of (s.frames ++ f ∷ []) ≡ live_serials s ++ next ∷ [] =
    ap (λ l. in_maps ++ l)
    (map-append serial_of s.frames (f ∷ [])
    ∙ ap (λ n. map serial_of s.frames ++ n ∷ [])
    (new_call_frame-serial next (s.slot + 1) (saved_registers s.regs)))
    ∙ sym (append_assoc in_maps (map serial_of s.frames) (next ∷ [])) in
    let pushed = serials_push (live_serials s) next k.given k.once in
    let r10 : V (frame_pointer next) = (omega arith, omega arith) in
    record {
      slot = go;
      registers = refl;
      values = All-from_recursion V (regs_within s.regs next)
          (tt, (old 1, (old 2, (old 3, (old 4, (old 5, (tt, (tt, (tt, (tt, (r10, tt)))))))))));
      called = omega arith;
      depth = let most = k.depth in omega arith;
      frames = All-push (IsCallFrame p more) s.frames f frames
          (new_call_frame_fits p more next (s.slot + 1) (saved_registers s.regs) back refl
          kept_fit);
      short = k.short;
      packet = k.packet;
      interface = k.interface;
      queue = k.queue;
      maps = k.maps;
      given = rw serials pushed.0;
      once = rw serials pushed.1;
    }

-- ---- a call frame popped

AllPairs-take : {X : Type 0} (R : X → X → Type 0) (n : ℕ) (xs : List X) → n ≤ length xs
    → AllPairs R xs → AllPairs R (take n xs)
AllPairs-take R n xs le h i j d before within =
    let long = length-take-le n xs le in
    let at_i = get_or-take n xs i d (omega arith) in
    let at_j = get_or-take n xs j d (omega arith) in
    rw (at_i, at_j) (h i j d before (omega arith))

pub IsState-leave : (p : Program) (s : State) → length s.frames ≢ 1 → IsState p s
    → IsState p (leave s)
IsState-leave p s inner k =
    let count : ℕ = length p.maps in
    let next : ℕ = s.next_serial in
    let V : Value → Type 0 = IsValue count next in
    let called = k.called in
    let depth = k.depth in
    let n : ℕ = length s.frames - 1 in
    let long : length (callers s.frames) ≡ n = length-take-le n s.frames (omega arith) in
    let last : IsCallFrame p next (innermost s.frames) =
    All-get_or (IsCallFrame p next) s.frames n (new_call_frame 0 0 []) (omega arith) k.frames in
    let kept : (j : ℕ) → IsValue count next (value_at (innermost s.frames).saved j) =
    (λ j. value_at_fits count next (innermost s.frames).saved j last.saved) in
    let caller : innermost (callers s.frames) ≡ call_frame_at s.frames (n - 1) =
    ap (λ m. call_frame_at (callers s.frames) (m - 1)) long
    ∙ get_or-take n s.frames (n - 1) (new_call_frame 0 0 []) (omega arith) in
    let below : (innermost (callers s.frames)).serial < next =
    rw caller (call_frame_serial_given p s (n - 1) k (omega arith)) in
    let in_maps = flat_map value_serials s.maps in
    let together = length-append in_maps (map serial_of s.frames) in
    let framed = length-map s.frames serial_of in
    let serials : in_maps ++ map serial_of (callers s.frames)
    ≡ take (length in_maps + n) (live_serials s) =
    ap (λ l. in_maps ++ l) (sym (take-map serial_of n s.frames))
    ∙ sym (take-append-add in_maps (map serial_of s.frames) n) in
    let r0 = value_at_fits count next s.regs 0 k.values in
    let r10 : V (frame_pointer (innermost (callers s.frames)).serial) = (below, omega arith) in
    record {
      slot = let back = last.returns in omega arith;
      registers = refl;
      values = All-from_recursion V
          (regs_after (reg s R0) (innermost s.frames).saved (innermost (callers s.frames)).serial)
          (r0, (tt, (tt, (tt, (tt, (tt, (kept 0, (kept 1, (kept 2, (kept 3, (r10, tt)))))))))));
      called = omega arith;
      depth = omega arith;
      frames = All-take (IsCallFrame p next) n s.frames k.frames;
      short = k.short;
      packet = k.packet;
      interface = k.interface;
      queue = k.queue;
      maps = k.maps;
      given = rw serials (All-take (λ n. n < next) (length in_maps + n) (live_serials s) k.given);
      once = rw serials
          (AllPairs-take (λ m n. m ≢ n) (length in_maps + n) (live_serials s) (omega arith) k.once);
    }
