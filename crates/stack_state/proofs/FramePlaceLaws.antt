-- Places in call frames: each is within one stack slot, and a frame pointer of a member leads to
-- the cells there.
use Rattle.stack_state.proofs.Common.{◌≡◌, ◌≢◌, ℕ, ◌+◌, ◌-◌, ◌*◌, ◌/◌, ◌%◌, ◌<◌, ◌≤◌, ◌==◌, ℤ, ◌+ℤ◌, nat_lt, true, List, [], ◌++◌, map, length, slice_get, slice_index_or, Some, sym, ap, ◌∙◌, arith, refl, flat_map, position_or_len, nat_tests, slice_get_within, get_or_from_slice_get, length-map, length-append, get_or-map, get_or-append_right, stack_size, Size, U8, U16, U32, U64, CallFrame, size_bytes, Program, new_call_frame, call_frame_at, call_frame_index, index_from, IsState, IsCallFrame, value_serials, Assigned, State, MeansBy}
use Rattle.std.proofs.lemmas.List.Sums.{position_or_len_is}
use Rattle.isa_model.specs.Machine.States as Machine
use Rattle.stack_state.proofs.FrameLaws.{IsHere}
use Rattle.stack_state.specs.FramePlaces.{IsPlace}

-- ---- slots

pub place_below : (z : ℤ) (size : Size) (at : ℕ) → IsPlace z size at → at < stack_size
place_below z U8 at h = let i = h.inside in omega arith
place_below z U16 at h = let i = h.inside in omega arith
place_below z U32 at h = let i = h.inside in omega arith
place_below z U64 at h = let i = h.inside in omega arith

pub place_in_slot : (z : ℤ) (size : Size) (at : ℕ) → IsPlace z size at
    → at % 8 + size_bytes size ≤ 8
place_in_slot z U8 at h = omega arith
place_in_slot z U16 at h = let a = h.aligned in omega arith
place_in_slot z U32 at h = let a = h.aligned in omega arith
place_in_slot z U64 at h = let a = h.aligned in omega arith

-- of 8 bytes, a whole slot
pub place_whole : (z : ℤ) (at : ℕ) → IsPlace z U64 at → 8 * (at / 8) ≡ at
place_whole z at h = let a = h.aligned in omega arith

-- ---- frame pointers

-- serials are given once, so the serial of the jth frame finds that frame
pub call_frame_index-serial : (p : Program) (s : Machine.State) (j n : ℕ) → IsState p s
    → slice_get (map (λ f. f.serial) s.frames) j ≡ Some n → call_frame_index s.frames n ≡ Some j
call_frame_index-serial p s j n is found =
    let fs : List CallFrame = s.frames in
    let none : CallFrame = new_call_frame 0 0 [] in
    let ns : List ℕ = flat_map value_serials s.maps in
    let serials : List ℕ = map (λ f. f.serial) fs in
    let count : length serials ≡ length fs = length-map fs (λ f. f.serial) in
    let long : length (ns ++ serials) ≡ length ns + length serials =
    length-append ns serials in
    let inside : j < length serials = slice_get_within serials j n found in
    let serial_at : (k : ℕ) → k < length fs
    → slice_index_or serials k 0 ≡ (call_frame_at fs k).serial =
    (λ k below. get_or-map (λ f. f.serial) fs k none 0 below) in
    let given_at : (k : ℕ)
    → slice_index_or (ns ++ serials) (length ns + k) 0 ≡ slice_index_or serials k 0 =
    (λ k. let back : (length ns + k) - length ns ≡ k = omega arith in
    get_or-append_right ns serials (length ns) (length ns + k) 0 refl (omega arith)
    ∙ ap (λ i. slice_index_or serials i 0) back) in
    let here : (call_frame_at fs j).serial ≡ n = sym (serial_at j (omega arith))
    ∙ get_or_from_slice_get serials j n 0 found in
    let before : (k : ℕ) → k < j → (call_frame_at fs k).serial ≢ n =
    (λ k below same. is.once (length ns + k) (length ns + j) 0 (omega arith) (omega arith)
    (given_at k ∙ serial_at k (omega arith) ∙ same ∙ sym here ∙ sym (serial_at j (omega arith))
    ∙ sym (given_at j))) in
    let first : position_or_len (λ f. f.serial == n) fs ≡ j =
    position_or_len_is (λ f. f.serial == n) fs j none (omega arith)
    (λ k below. let other : (call_frame_at fs k).serial
    ≢ n = before k below in grind (arith, nat_tests))
    (λ _. grind (arith, nat_tests)) in
    let test : nat_lt j (length fs) ≡ true = grind (arith, nat_tests) in
    rw (first, test) refl

-- the bytes of a place are there, where the serial of the jth frame is given
pub IsHere-place : (p : Program) (e : Assigned) (a : State) (s : Machine.State) (size : Size)
    (serial j at : ℕ) (z by : ℤ) → MeansBy p e a s
    → slice_get e.frames j ≡ Some serial → IsPlace (z +ℤ by) size at
    → IsHere s serial j at (size_bytes size) z by
IsHere-place p e a s size serial j at z by m found h =
    let mine : slice_get (map (λ f. f.serial) s.frames) j ≡ Some serial =
    rw (sym m.assigned.serials) found in
    let count : length (map (λ f. f.serial) s.frames) ≡ length s.frames =
    length-map s.frames (λ f. f.serial) in
    let within : j < length (map (λ f. f.serial) s.frames) =
    slice_get_within (map (λ f. f.serial) s.frames) j serial mine in
    let fits : IsCallFrame p s.next_serial (call_frame_at s.frames j) =
    m.is_state.frames j (new_call_frame 0 0 []) (omega arith) in
    let whole : length (call_frame_at s.frames j).cells ≡ stack_size = fits.whole in
    let inside = h.inside in
    record {
      found = call_frame_index-serial p s j serial m.is_state mine;
      index = ap index_from h.from_start;
      inside = omega arith;
    }
