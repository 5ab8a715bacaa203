-- Layouts with one serial more: what was represented still is.
use Rattle.machine.proofs.Common.{◌≡◌, ℕ, ◌+◌, ◌*◌, ◌<◌, List, [], ◌∷◌, length, refl, sym, ap, ◌∙◌, arith, ℤ, Bool, true, false, if◌then◌else◌, ◌==◌, slice_index, All, nat_tests, All-get_or, All-head, All-tail, byte_at, bytes_at, stack_size, max_call_frames, offset_limit, Region, Value, Unset, Num, Ptr, Cell, Unwritten, Byte, Piece, Program, State, Content, content_of, value_at, call_frame_at, new_call_frame, IsRegion, IsValue, IsCell, IsCallFrame, IsState, value_serials, value_at_fits, changed, MapState, map_at, packet_base, values_base, frame_end, Saved, saved_at, Layout, IsLayout, moved, word, Represents, RepresentsCell, RepresentsCells, RepresentsRegisters, RepresentsFrame, RepresentsSaved, RepresentsFrames, by_serial, RepresentsMap, RepresentsMaps}
use Rattle.isa_model.specs.declared.values.Region.TheVariants as region
use Rattle.isa_model.proofs.CallLaws.{call_frame_serial_given}
use Rattle.isa_model.proofs.HelperLaws.{value_serials_given}

-- what had a serial before `next` is where it was
pub record ExtendsLayout (a b : Layout) (next : ℕ) : Type 0 where
  pub depth : (n : ℕ) → n < next → b.depth n ≡ a.depth n
  pub value_start : (m n : ℕ) → n < next → b.value_start m n ≡ a.value_start m n
  pub end : b.end ≡ a.end

-- ---- a serial at a depth, or at a map value's beginning

abbrev pub put_at : ℕ → ℕ → (ℕ → ℕ) → ℕ → ℕ
put_at serial x f n = if n == serial then x else f n

pub put_at-there : (serial x : ℕ) (f : ℕ → ℕ) → put_at serial x f serial ≡ x
put_at-there serial x f = by_test (serial == serial) refl
  where
    by_test : (b : Bool) → (serial == serial) ≡ b → (if b then x else f serial) ≡ x
    by_test true e = refl
    by_test false e = absurd (grind (arith, nat_tests))

pub put_at-below : (serial x : ℕ) (f : ℕ → ℕ) (n : ℕ) → n < serial → put_at serial x f n ≡ f n
put_at-below serial x f n h = by_test (n == serial) refl
  where
    by_test : (b : Bool) → (n == serial) ≡ b → (if b then x else f n) ≡ f n
    by_test true e = absurd (let g : n ≡ serial = grind (arith, nat_tests) in omega arith)
    by_test false e = refl

-- what holds of the others and of the new one holds of all
pub put_at-all : (P : ℕ → Type 0) (serial x : ℕ) (f : ℕ → ℕ) → P x → ((n : ℕ) → P (f n)) → (n : ℕ)
    → P (put_at serial x f n)
put_at-all P serial x f h rest n = by_test (n == serial)
  where
    by_test : (b : Bool) → P (if b then x else f n)
    by_test true = h
    by_test false = rest n

abbrev pub with_depth : Layout → ℕ → ℕ → Layout
with_depth a serial j = record a { depth = put_at serial j a.depth }

abbrev pub with_value_start : Layout → ℕ → ℕ → Layout
with_value_start a serial x = record a { value_start = λ m. put_at serial x (a.value_start m) }

pub ExtendsLayout-with_depth : (a : Layout) (serial j : ℕ)
    → ExtendsLayout a (with_depth a serial j) serial
ExtendsLayout-with_depth a serial j = record {
  depth = λ n h. put_at-below serial j a.depth n h;
  value_start = λ m n h. refl;
  end = refl;
}

pub ExtendsLayout-with_value_start : (a : Layout) (serial x : ℕ)
    → ExtendsLayout a (with_value_start a serial x) serial
ExtendsLayout-with_value_start a serial x = record {
  depth = λ n h. refl;
  value_start = λ m n h. put_at-below serial x (a.value_start m) n h;
  end = refl;
}

pub IsLayout-with_depth : (a : Layout) (count serial j : ℕ) → j < max_call_frames → IsLayout a count
    → IsLayout (with_depth a serial j) count
IsLayout-with_depth a count serial j h good = record {
  few = good.few;
  shallow = λ n. put_at-all (λ d. d < max_call_frames) serial j a.depth h good.shallow n;
  low = good.low;
  short = good.short;
}

pub IsLayout-with_value_start : (a : Layout) (count serial x : ℕ) → x < offset_limit
    → IsLayout a count → IsLayout (with_value_start a serial x) count
IsLayout-with_value_start a count serial x h good = record {
  few = good.few;
  shallow = good.shallow;
  low = λ m n. put_at-all (λ v. v < offset_limit) serial x (a.value_start m) h (good.low m) n;
  short = good.short;
}

-- ---- what names only older serials is represented as before

module _ (a b : Layout) (count next : ℕ) (E : ExtendsLayout a b next) where
  word_old : (r : Region) (z : ℤ) → IsRegion count next r → word b r z ≡ word a r z
  word_old region.Context z h = refl
  word_old region.Packet z h = refl
  word_old region.PacketEnd z h = ap (λ n. packet_base + n) E.end
  word_old (region.Map m) z h = refl
  word_old (region.MapValue m n) z h = ap (λ v. moved (values_base m + v) z) (E.value_start m n h.1)
  word_old (region.CallFrame n) z h = ap (λ d. moved (frame_end d) z) (E.depth n h)

  pub shows_old : (v : Value) (w : ℕ) → IsValue count next v → Represents a v w → Represents b v w
  shows_old Unset w h s = tt
  shows_old (Num n) w h s = s
  shows_old (Ptr r z) w h s = s ∙ sym (word_old r z h.0)

  cell_old : (c : Cell) (w : ℕ) → IsCell count next c → RepresentsCell a c w → RepresentsCell b c w
  cell_old Unwritten w h s = tt
  cell_old (Byte n) w h s = s
  cell_old (Piece r z k) w h s = s ∙ ap (byte_at k) (sym (word_old r z h.0))

  cells_old : (cs : List Cell) (bs : List ℕ) → All (IsCell count next) cs → RepresentsCells a cs bs
      → RepresentsCells b cs bs
  cells_old [] [] h s = tt
  cells_old [] (x ∷ bs) h s = absurd s
  cells_old (c ∷ cs) [] h s = absurd s
  cells_old (c ∷ cs) (x ∷ bs) h s = (
    cell_old c x (All-head (IsCell count next) c cs h) s.0,
    cells_old cs bs
        (All-tail (IsCell count next) c cs h) s.1,
  )

  pub content_old : (m : ℕ) (content : Content) → All (λ n. n < next) (value_serials content)
      → changed (by_serial b m) content ≡ changed (by_serial a m) content
  content_old m [] h = refl
  content_old m (e ∷ content) h =
      let here = All-head (λ n. n < next) e.1.serial (value_serials content) h in
      λ i. (e.0, (E.value_start m e.1.serial here i, e.1.bytes))
      ∷ content_old m content (All-tail (λ n. n < next) e.1.serial (value_serials content) h) i

  pub map_old : (m : ℕ) (content : Content) (state : MapState)
      → All (λ n. n < next) (value_serials content)
      → RepresentsMap a m content state → RepresentsMap b m content state
  map_old m content state h R = record { is = R.is; same = content_old m content h ∙ R.same }

module _ (p : Program) (s : State) (K : IsState p s) (a b : Layout)
    (E : ExtendsLayout a b s.next_serial) where
  pub register_old : (k : ℕ) (w : ℕ) → Represents a (value_at s.regs k) w
      → Represents b (value_at s.regs k) w
  register_old k w h = shows_old a b (length p.maps) s.next_serial E (value_at s.regs k) w
      (value_at_fits (length p.maps) s.next_serial s.regs k K.values) h

  pub registers_old : (words : List ℕ) → RepresentsRegisters a s.regs words
      → RepresentsRegisters b s.regs words
  registers_old words R =
      record { count = R.count; shown = λ k. register_old k (slice_index words k) (R.shown k) }

  old_frame : (j : ℕ) → j < length s.frames → IsCallFrame p s.next_serial (call_frame_at s.frames j)
  old_frame j h =
      All-get_or (IsCallFrame p s.next_serial) s.frames j (new_call_frame 0 0 []) h K.frames

  pub frame_old : (j : ℕ) (block : List ℕ) → j < length s.frames
      → RepresentsFrame a (call_frame_at s.frames j) j block
      → RepresentsFrame b (call_frame_at s.frames j) j block
  frame_old j block h old = record {
    depth =
        E.depth (call_frame_at s.frames j).serial (call_frame_serial_given p s j K h) ∙ old.depth;
    cells =
        cells_old a b (length p.maps) s.next_serial E (call_frame_at s.frames j).cells
        (bytes_at block (j * stack_size) stack_size) (old_frame j h).cells old.cells;
  }

  pub saved_old : (j : ℕ) (c : Saved) → j < length s.frames
      → RepresentsSaved a (call_frame_at s.frames j) c
      → RepresentsSaved b (call_frame_at s.frames j) c
  saved_old j c h old = record {
    back = old.back;
    kept =
        λ k. shows_old a b (length p.maps) s.next_serial E
        (value_at (call_frame_at s.frames j).saved k)
        (slice_index c.kept k)
        (value_at_fits (length p.maps) s.next_serial (call_frame_at s.frames j).saved k
        (old_frame j h).saved) (old.kept k);
  }

  pub frames_old : (block : List ℕ) (callers : List Saved)
      → RepresentsFrames a s.frames block callers → RepresentsFrames b s.frames block callers
  frames_old block callers R = record {
    whole = R.whole;
    depth = R.depth;
    frames = λ j h. frame_old j block h (R.frames j h);
    saved =
        λ j h. saved_old (j + 1) (saved_at callers j) (let d = R.depth in omega arith)
        (R.saved j h);
  }

  pub maps_old : (states : List MapState) → RepresentsMaps a p.maps s.maps states
      → RepresentsMaps b p.maps s.maps states
  maps_old states R = record {
    rows = R.rows;
    maps =
        λ m h. map_old a b (length p.maps) s.next_serial E m (content_of s m) (map_at states m)
        (value_serials_given p s m K) (R.maps m h);
  }
