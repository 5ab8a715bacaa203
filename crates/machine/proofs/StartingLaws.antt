-- Laws of the definitions in specs/Starting.
use Rattle.machine.proofs.Common.{◌≡◌, ℕ, zero, suc, ◌+◌, ◌-◌, ◌*◌, ◌<◌, ◌≤◌, List, [], ◌∷◌, length, map, refl, sym, ap, subst, ◌∙◌, arith, mul-le-mul, inl, inr, slice_index, slice_index_or, All, cases_lt, get_or_past, All-get_or, All-head, All-tail, slice_get-get_or, entries, bytes_at, length-bytes_at, stack_size, max_maps, offset_limit, FrameHead, Unset, Stored, value_at, new_call_frame, call_frame_at, block_row, row_end, changed, length-rows_of, MapState, IsMap, map_at, rows_of, content_in, contents_of, Layout, Represents, RepresentsFrame, by_place, Related, start_of, start_words, frames_size}
use Rattle.isa_model.specs.{Program, max_packet}
use Rattle.isa_model.specs.Running.Runs.{start_state, start_regs, numbered, numbered_maps, count_map_values}
use Rattle.maps.proofs.ReportOrderLaws.{get_at}
use Rattle.machine.proofs.Calling.{by_register, cells_unwritten}

abbrev pub place_of : MapState → ℕ → ℕ
place_of state k = (slice_index_or (entries state.places) k ([], 0)).1

-- where the map value of a serial begins, where the serials are numbered from `first` on, map by
-- map
abbrev pub begins : ℕ → List MapState → ℕ → ℕ → ℕ
begins first [] m n = 0
begins first (state ∷ states) zero n = place_of state (n - first) * state.row.value_size
begins first (state ∷ states) (suc m) n = begins (first + length (content_in state)) states m n

abbrev pub start_layout : List ℕ → List MapState → Layout
start_layout packet maps =
    record { depth = λ n. 0; value_start = begins 0 maps; end = length packet }

place_inside : (state : MapState) (k : ℕ) → IsMap state → place_of state k < state.row.entries
place_inside state k is = elim (cases_lt k (length (entries state.places))) [
  | inl l ↦
      let e = slice_index_or (entries state.places) k ([], 0) in
      is.in_range e.0 e.1
      (get_at state.places k e (slice_get-get_or (entries state.places) k ([], 0) l))
  | inr g ↦
      let some = is.is_row.some_entries in
      subst (λ (e : List ℕ × ℕ). e.1 < state.row.entries)
      (sym (get_or_past (entries state.places) k ([], 0) g)) (omega arith)
]

begins_low : (first : ℕ) (maps : List MapState) (m n : ℕ) → All IsMap maps
    → begins first maps m n < offset_limit
begins_low first [] m n h = omega arith
begins_low first (state ∷ maps) zero n h =
    let is = All-head IsMap state maps h in
    let end = row_end (place_of state (n - first)) state.row.entries state.row.value_size
    (place_inside state (n - first) is) in
    let all = mul-le-mul is.is_row.few_entries is.is_row.short_value in
    omega arith
begins_low first (state ∷ maps) (suc m) n h =
    begins_low (first + length (content_in state)) maps m n (All-tail IsMap state maps h)

numbered_shown : (begin : ℕ → ℕ) (size : ℕ) (block : List ℕ) (first : ℕ) (es : List (List ℕ × ℕ))
    → ((j : ℕ) → j < length es → begin (first + j) ≡ (slice_index_or es j ([], 0)).1 * size)
    → changed {X = Stored} {Y = ℕ × List ℕ} (λ v. (begin v.serial, v.bytes))
    (numbered first (map (λ e. (e.0, block_row size block e.1)) es))
    ≡ changed (by_place size block) es
numbered_shown begin size block first [] h = refl
numbered_shown begin size block first (e ∷ es) h =
    let zero_first : first ≡ first + 0 = omega arith in
    let here : begin first ≡ e.1 * size = ap begin zero_first ∙ h 0 (omega arith) in
    λ i. (e.0, (here i, block_row size block e.1))
    ∷ numbered_shown begin size block (suc first) es
    (λ j l. let next : suc first + j ≡ first + suc j = omega arith in
    ap begin next ∙ h (suc j) (omega arith)) i

maps_shown : (first : ℕ) (maps : List MapState) (m : ℕ) → m < length maps
    → changed {X = Stored} {Y = ℕ × List ℕ} (λ v. (begins first maps m v.serial, v.bytes))
    (slice_index_or (numbered_maps first (contents_of maps)) m [])
    ≡ changed (by_place (map_at maps m).row.value_size (map_at maps m).block)
    (entries (map_at maps m).places)
maps_shown first [] m h = absurd (omega arith)
maps_shown first (state ∷ maps) zero h =
    numbered_shown (begins first (state ∷ maps) 0) state.row.value_size state.block first
    (entries state.places)
    (λ j l. let same : first + j - first ≡ j = omega arith in
    ap (λ k. place_of state k * state.row.value_size) same)
maps_shown first (state ∷ maps) (suc m) h =
    maps_shown (first + length (content_in state)) maps m (omega arith)

pub start_related : (p : Program) (head : FrameHead) (packet frames : List ℕ) (maps : List MapState)
    → length p.maps ≤ max_maps → length packet ≤ max_packet
    → length frames ≡ frames_size → All IsMap maps → rows_of maps ≡ p.maps
    → Related p (start_layout packet maps) (start_state head packet (contents_of maps))
    (start_of head packet frames maps)
unfolding start_state new_call_frame
start_related p head packet frames maps few short whole are rows = record {
  slot = refl;
  layout =
      record {
        few = few;
        shallow = λ n. omega arith;
        low = λ m n. begins_low 0 maps m n are;
        short = short;
      };
  registers = record {
    count = refl;
    shown =
        by_register (λ k. Represents (start_layout packet maps)
        (value_at (start_regs (count_map_values (contents_of maps))) k) (slice_index start_words k))
        tt refl tt tt tt tt tt tt tt tt refl
        (λ k h. subst (λ v. Represents (start_layout packet maps) v (slice_index start_words k))
        (sym (get_or_past (start_regs (count_map_values (contents_of maps))) k Unset h)) tt);
  };
  frames =
      record { whole = whole; depth = refl; frames = frame; saved = λ j h. absurd (omega arith) };
  packet = refl;
  end = refl;
  interface = refl;
  queue = refl;
  maps = record {
    rows = rows;
    maps = λ m h. let long = sym (length-rows_of maps) ∙ ap length rows in record {
      is = All-get_or IsMap maps m _ (omega arith) are;
      same = maps_shown 0 maps m (omega arith);
    };
  };
  clock_calls = refl;
}
  where
    frame : (j : ℕ) → j < length (start_state head packet (contents_of maps)).frames
        → RepresentsFrame (start_layout packet maps)
        (call_frame_at (start_state head packet (contents_of maps)).frames j) j frames
    frame zero h =
        record {
          depth = refl;
          cells = cells_unwritten (start_layout packet maps)
              (bytes_at frames 0 stack_size) stack_size
              (length-bytes_at frames 0 stack_size (omega arith));
        }
    frame (suc j) h = absurd (omega arith)
