-- Writes of bytes that represent cells.
use Rattle.machine.proofs.Common.{◌≡◌, ℕ, ◌+◌, ◌*◌, ◌<◌, ◌≤◌, List, [], ◌++◌, length, take, drop, map, refl, sym, ap, subst, ◌∙◌, arith, ℤ, pos, negsuc, ◌+ℤ◌, Ok, Err, Result, Bool, true, false, Option, Some, None, inl, inr, get_or-set_same, get_or-set_other, length-set, slice_set, if◌then◌else◌, nat_le, ints, nat_tests, cases_lt, length-map, splice, option_map, w16, w64, to_le_bytes, FitsSigned, bytes_at, with_bytes, bytes_with, bytes_before, bytes_after, length-with_bytes, stack_size, Full64, Size, U8, U16, U32, U64, Add, Region, Value, Unset, Num, Ptr, Cell, Byte, TrapReason, BadAccess, size_bytes, alu, unsigned, bytes_of, Program, State, Content, content_of, call_frame_at, new_call_frame, MapState, map_at, with_block, AreBytes, IsValue, IsState, length-splice, bytes_of_fit, packet_base, Layout, region_start, moved, word, Represents, RepresentsCells, RepresentsFrame, RepresentsSaved, RepresentsFrames, RepresentsMaps, Related}
use Rattle.isa_model.specs.declared.values.Region.TheVariants as region
use Rattle.isa_model.specs.declared.values.CallFrame.{CallFrame}
use Rattle.isa_model.proofs.ByteCells.{map-byte_in-Byte}
use Rattle.isa_model.specs.Machine.Memory.{and_then, byte_in, index_of_serial, key_value_at, index_from, index_at, place_in, put_call_frame, put_value, write, pieces, store_number, store_pointer, store, call_frame_index as frame_index_of}
use Rattle.word_machine.specs.Words.{Words, InPacket, InFrames, InBlock, spot_of, IsInside, saved_at, put as words_put}
use Rattle.machine.proofs.LiveValues.{contents_are, written, written_shown, set_shown}
use Rattle.machine.proofs.Addresses.{add_near}
use Rattle.machine.proofs.Arithmetic.{far}
use Rattle.machine.proofs.Cells.{shows-take, shows-drop, shows-append, shows-bytes, shows-length, shows-pieces}
use Rattle.word_machine.proofs.FrameLaws.{spot_frame}
use Rattle.machine.proofs.Loading.{spot_packet, spot_value, frame_whole, live_depth, live_value}

-- a call frame of a list in which one was replaced
at_set : (fs : List CallFrame) (j k : ℕ) (g : CallFrame) (P : CallFrame → Type 0) → j < length fs
    → (k ≡ j → P g) → ((k ≡ j → ⊥) → P (call_frame_at fs k))
    → P (call_frame_at (slice_set fs j g) k)
at_set fs j k g P here same other =
    let d : CallFrame = new_call_frame 0 0 [] in
    elim (cases_lt k j) [
      | inl lt ↦
          subst P (sym (get_or-set_other fs j k g d (λ e. omega arith))) (other (λ e. omega arith))
      | inr ge ↦ elim (cases_lt j k) [
        | inl gt ↦
            subst P (sym (get_or-set_other fs j k g d (λ e. omega arith)))
            (other (λ e. omega arith))
        | inr le ↦ let e : k ≡ j = omega arith in
            subst P (sym (ap (call_frame_at (slice_set fs j g)) e ∙ get_or-set_same fs j g d here))
            (same e)
      ]
    ]

module _ (p : Program) (a : Layout) (s : State) (w : Words) (R : Related p a s w)
    (K : IsState p s) where
  -- cells that replace some, and bytes that replace those which represent them
  shows-splice : (cs new : List Cell) (held bs : List ℕ) (i : ℕ) → RepresentsCells a cs held
      → RepresentsCells a new bs
      → RepresentsCells a (splice cs i (i + length new) new) (with_bytes held i bs)
  shows-splice cs new held bs i h k =
      let long = shows-length a new bs k in
      let rest = subst (λ n. RepresentsCells a (drop (i + n) cs) (drop (i + length bs) held))
      (sym long) (shows-drop a (i + length bs) cs held h) in
      shows-append a (take i cs) (take i held) (new ++ drop (i + length new) cs)
      (bs ++ drop (i + length bs) held) (shows-take a i cs held h)
      (shows-append a new bs (drop (i + length new) cs) (drop (i + length bs) held) k rest)

  put_frame_shown : (j i : ℕ) (new : List Cell) (bs : List ℕ) → j < length s.frames
      → i + length new ≤ stack_size → RepresentsCells a new bs
      → RepresentsFrames a (put_call_frame s.frames (Some j) i new)
      (with_bytes w.frames (j * stack_size + i) bs) w.saved
  put_frame_shown j i new bs here room k =
      let f = call_frame_at s.frames j in
      let g : CallFrame = record f { cells = splice f.cells i (i + length new) new } in
      let few = K.depth in
      let block = R.frames.whole in
      let long = shows-length a new bs k in
      let same = length-set s.frames j g in
      let inside : j * stack_size + i + length bs ≤ length w.frames = omega arith in
      record {
        whole = length-with_bytes w.frames (j * stack_size + i) bs inside ∙ R.frames.whole;
        depth = same ∙ R.frames.depth;
        frames =
            λ n h. at_set s.frames j n g
            (λ f. RepresentsFrame a f n (with_bytes w.frames (j * stack_size + i) bs)) here
            (λ e. let old = R.frames.frames j here in record {
              depth = old.depth ∙ sym e;
              cells =
                  subst (λ n. RepresentsCells a g.cells
                  (bytes_at (with_bytes w.frames (j * stack_size + i) bs)
                  (n * stack_size) stack_size)) (sym e)
                  (subst (RepresentsCells a g.cells)
                  (sym (bytes_with w.frames (j * stack_size) stack_size i bs (omega arith)
                  (omega arith)))
                  (shows-splice f.cells new
                  (bytes_at w.frames (j * stack_size) stack_size) bs i old.cells k));
            })
            (λ d. let old = R.frames.frames n (omega arith) in record {
              depth = old.depth;
              cells =
                  subst (RepresentsCells a (call_frame_at s.frames n).cells) (elim (cases_lt n j) [
                    | inl lt ↦
                        sym (bytes_before w.frames (j * stack_size + i) bs inside
                        (n * stack_size) stack_size (omega arith))
                    | inr ge ↦
                        sym (bytes_after w.frames (j * stack_size + i) bs inside
                        (n * stack_size) stack_size
                        (let gt : j < n = omega (arith, d) in omega arith))
                  ]) old.cells;
            });
        saved =
            λ n h. at_set s.frames j (n + 1) g (λ f. RepresentsSaved a f (saved_at w.saved n)) here
            (λ e. let old = subst
            (λ m. RepresentsSaved a (call_frame_at s.frames m) (saved_at w.saved n)) e
            (R.frames.saved n h) in record { back = old.back; kept = old.kept })
            (λ d. R.frames.saved n h);
      }

  with_frames : (fs : List CallFrame) (block : List ℕ) → RepresentsFrames a fs block w.saved
      → Related p a (record s { frames = fs }) (record w { frames = block })
  with_frames fs block h = record {
    slot = R.slot;
    layout = R.layout;
    registers = R.registers;
    frames = h;
    packet = R.packet;
    end = R.end;
    interface = R.interface;
    queue = R.queue;
    maps = R.maps;
    clock_calls = R.clock_calls;
  }

  with_packet : (packet : List ℕ) → length packet ≡ length s.packet
      → Related p a (record s { packet = packet }) (record w { packet = packet })
  with_packet packet same = record {
    slot = R.slot;
    layout = R.layout;
    registers = R.registers;
    frames = R.frames;
    packet = refl;
    end = R.end ∙ sym same;
    interface = R.interface;
    queue = R.queue;
    maps = R.maps;
    clock_calls = R.clock_calls;
  }

  with_maps : (contents : List Content) (maps : List MapState)
      → RepresentsMaps a p.maps contents maps
      → Related p a (record s { maps = contents }) (record w { maps = maps })
  with_maps contents maps h = record {
    slot = R.slot;
    layout = R.layout;
    registers = R.registers;
    frames = R.frames;
    packet = R.packet;
    end = R.end;
    interface = R.interface;
    queue = R.queue;
    maps = h;
    clock_calls = R.clock_calls;
  }

  put_packet_related : (i : ℕ) (bs : List ℕ) → i + length bs ≤ length s.packet
      → Related p a
      (record s {
        packet = splice s.packet i (i + length (map Byte bs))
            (map byte_in (map Byte bs));
      }) (words_put w (InPacket i) bs)
  put_packet_related i bs room =
      let long = length-map bs Byte in
      let new : splice s.packet i (i + length (map Byte bs)) (map byte_in (map Byte bs))
      ≡ with_bytes w.packet i bs =
      rw (map-byte_in-Byte bs, long, R.packet) refl in
      let same : length (splice s.packet i (i + length (map Byte bs)) (map byte_in (map Byte bs)))
      ≡ length s.packet =
      rw (map-byte_in-Byte bs, long) (length-splice s.packet bs i room) in
      subst (λ l. Related p a
      (record s {
        packet = splice s.packet i (i + length (map Byte bs))
            (map byte_in (map Byte bs));
      }) (record w { packet = l })) new
      (with_packet (splice s.packet i (i + length (map Byte bs)) (map byte_in (map Byte bs))) same)

  -- a write that does not trap is inside the packet or a block, and the words then represent the
  -- state that it leaves
  abbrev pub OkStore : Result State TrapReason → ℕ → List ℕ → Type 0
  OkStore (Ok t) x bs =
      IsInside w (spot_of x) (length bs) × Related p a t (words_put w (spot_of x) bs)
  OkStore (Err e) x bs = Unit {0}

  write_in : (cells : List Cell) (i n x : ℕ) (bs : List ℕ) (t : ℕ → State)
      → (i + n ≤ length cells → OkStore (Ok (t i)) x bs)
      → OkStore (and_then (place_in (Some cells) (Some i) n) (λ i. Ok (t i))) x bs
  write_in cells i n x bs t h = by_test (nat_le (i + n) (length cells)) refl
    where
      by_test : (b : Bool) → nat_le (i + n) (length cells) ≡ b
          → OkStore (and_then (if b then Ok i else Err BadAccess) (λ i. Ok (t i))) x bs
      by_test true e = h (grind (arith, nat_tests))
      by_test false e = tt

  shows_write_frame : (m : ℕ) (z : ℤ) (new : List Cell) (bs : List ℕ) (x : ℕ) → 0 < length bs
      → RepresentsCells a new bs → pos x ≡ pos (region_start a (region.CallFrame m)) +ℤ z
      → OkStore (write s (region.CallFrame m) (index_at (region.CallFrame m) z) new) x bs
  shows_write_frame m z new bs x some k e =
      by_frame (frame_index_of s.frames m) refl (z +ℤ pos stack_size) refl
    where
      by_frame : (o : Option ℕ) → frame_index_of s.frames m ≡ o → (y : ℤ) → z +ℤ pos stack_size ≡ y
          → OkStore (and_then
          (place_in (option_map (λ j. (call_frame_at s.frames j).cells) o) (index_from y)
          (length new))
          (λ i. Ok (record s { frames = put_call_frame s.frames o i new }))) x bs
      by_frame None f y g = tt
      by_frame (Some j) f (negsuc i) g = tt
      by_frame (Some j) f (pos i) g =
          write_in (call_frame_at s.frames j).cells i (length new) x bs
          (λ i. record s { frames = put_call_frame s.frames (Some j) i new }) (λ h.
          let (here, depth) = live_depth p a s w R K m j f in
          let whole = frame_whole p a s w R K j here in
          let few = K.depth in
          let block = R.frames.whole in
          let long = shows-length a new bs k in
          let spot : spot_of x ≡ InFrames (j * stack_size + i) =
          spot_frame j i x (omega arith) (omega arith) (omega (arith, ints)) in
          rw spot (
            omega arith,
            with_frames (put_call_frame s.frames (Some j) i new)
                (with_bytes w.frames (j * stack_size + i) bs)
                (put_frame_shown j i new bs here (omega arith) k),
          ))

  -- bytes into a live map value
  put_value_related : (m j i : ℕ) (new bs : List ℕ) → new ≡ bs → j < length (content_of s m)
      → m < length p.maps
      → i + length bs ≤ length (key_value_at (content_of s m) j).1.bytes → AreBytes bs
      → Related p a
      (record s { maps = slice_set s.maps m (put_value (content_of s m) (Some j) i new) })
      (words_put w (InBlock m (a.value_start m (key_value_at (content_of s m) j).1.serial + i)) bs)
  put_value_related m j i new bs same here has_row room bytes =
      subst (λ new. Related p a
      (record s { maps = slice_set s.maps m (put_value (content_of s m) (Some j) i new) })
      (words_put w (InBlock m (a.value_start m (key_value_at (content_of s m) j).1.serial + i)) bs))
      (sym same)
      (with_maps (slice_set s.maps m (put_value (content_of s m) (Some j) i bs))
      (with_block w.maps m
      (with_bytes (map_at w.maps m).block
      (a.value_start m (key_value_at (content_of s m) j).1.serial + i) bs))
      (set_shown a p.maps s.maps w.maps m (put_value (content_of s m) (Some j) i bs)
      (written a m (content_of s m) (map_at w.maps m) (R.maps.maps m has_row)
      j here i bs room bytes)
      (contents_are p s K) refl
      (λ _. written_shown a m (content_of s m) (map_at w.maps m)
      (R.maps.maps m has_row) j here i bs room bytes) R.maps))

  shows_write_value : (m n : ℕ) (z : ℤ) (bs : List ℕ) (x : ℕ) → AreBytes bs
      → pos x ≡ pos (region_start a (region.MapValue m n)) +ℤ z
      → OkStore (write s (region.MapValue m n) (index_at (region.MapValue m n) z) (map Byte bs)) x
      bs
  shows_write_value m n z bs x bytes e = by_value (index_of_serial (content_of s m) n) refl z refl
    where
      by_value : (o : Option ℕ) → index_of_serial (content_of s m) n ≡ o → (y : ℤ) → z ≡ y
          → OkStore (and_then
          (place_in (option_map (λ j. map Byte (key_value_at (content_of s m) j).1.bytes) o)
          (index_from y) (length (map Byte bs)))
          (λ i. Ok (record s {
            maps = slice_set s.maps m
                (put_value (content_of s m) o i (map byte_in (map Byte bs)));
          }))) x bs
      by_value None f y g = tt
      by_value (Some j) f (negsuc i) g = tt
      by_value (Some j) f (pos i) g =
          write_in (map Byte (key_value_at (content_of s m) j).1.bytes) i
          (length (map Byte bs)) x bs
          (λ i. record s {
            maps = slice_set s.maps m
                (put_value (content_of s m) (Some j) i (map byte_in (map Byte bs)));
          }) (λ h.
          let long = length-map (key_value_at (content_of s m) j).1.bytes Byte in
          let part = length-map bs Byte in
          let (here, serial, has_row) = live_value p a s w R K m n j f in
          let same = ap (a.value_start m) serial in
          let (spot, inside) =
          spot_value p a s w R K m j i (length bs) x here has_row (omega arith)
          (omega (arith, ints)) in
          rw spot (
            inside,
            put_value_related m j i (map byte_in (map Byte bs)) bs
                (map-byte_in-Byte bs) here has_row (omega arith) bytes,
          ))

  pub shows_write_number : (r : Region) (z : ℤ) (bs : List ℕ) (x : ℕ) → 0 < length bs → AreBytes bs
      → pos x ≡ pos (region_start a r) +ℤ z
      → OkStore (write s r (index_at r z) (map Byte bs)) x bs
  shows_write_number region.Context z bs x some bytes e = tt
  shows_write_number region.PacketEnd z bs x some bytes e = tt
  shows_write_number (region.Map m) z bs x some bytes e = tt
  shows_write_number (region.CallFrame m) z bs x some bytes e =
      shows_write_frame m z (map Byte bs) bs x some (shows-bytes a bs) e
  shows_write_number (region.MapValue m n) z bs x some bytes e =
      shows_write_value m n z bs x bytes e
  shows_write_number region.Packet (negsuc i) bs x some bytes e = tt
  shows_write_number region.Packet (pos i) bs x some bytes e =
      write_in (map Byte s.packet) i (length (map Byte bs)) x bs
      (λ i. record s
      { packet = splice s.packet i (i + length (map Byte bs)) (map byte_in (map Byte bs)) })
      (λ h.
      let long = length-map s.packet Byte in
      let part = length-map bs Byte in
      let short = K.short in
      let same : length w.packet ≡ length s.packet = ap length R.packet in
      let at : x ≡ packet_base + i = omega (arith, ints) in
      let spot : spot_of x ≡ InPacket i = ap spot_of at ∙ spot_packet i (omega arith) in
      rw spot (omega arith, put_packet_related i bs (omega arith)))

  -- how many bytes a store writes
  pub bytes_long : (size : Size) (n : ℕ) → length (bytes_of size n) ≡ size_bytes size
  bytes_long U8 n = refl
  bytes_long U16 n = refl
  bytes_long U32 n = refl
  bytes_long U64 n = refl

  some_bytes : (size : Size) (n : ℕ) → 0 < length (bytes_of size n)
  some_bytes U8 n = omega arith
  some_bytes U16 n = omega arith
  some_bytes U32 n = omega arith
  some_bytes U64 n = omega arith

  -- every store of a number
  pub shows_store_number : (size : Size) (u : Value) (by : ℤ) (n x : ℕ)
      → IsValue (length p.maps) s.next_serial u → FitsSigned w16 by → Represents a u x
      → OkStore (store_number s size u by n) (alu Add Full64 x (unsigned Full64 by))
      (bytes_of size n)
  shows_store_number size Unset by n x fits small e = tt
  shows_store_number size (Num m) by n x fits small e = tt
  shows_store_number size (Ptr r z) by n x fits small e =
      let g = far a (length p.maps) s.next_serial R.layout r fits.0 in
      let at = add_near (region_start a r) z by g.0 g.1 fits.1 small in
      subst (λ x. OkStore (store_number s size (Ptr r z) by n)
      (alu Add Full64 x (unsigned Full64 by)) (bytes_of size n)) (sym e) (by_region r at)
    where
      by_region : (r : Region)
          → pos (alu Add Full64 (moved (region_start a r) z) (unsigned Full64 by))
          ≡ pos (region_start a r) +ℤ (z +ℤ by)
          → OkStore (store_number s size (Ptr r z) by n)
          (alu Add Full64 (word a r z) (unsigned Full64 by)) (bytes_of size n)
      by_region region.Context at = tt
      by_region region.PacketEnd at = tt
      by_region (region.Map m) at = tt
      by_region region.Packet at =
          shows_write_number region.Packet (z +ℤ by) (bytes_of size n) _ (some_bytes size n)
          (bytes_of_fit size n) at
      by_region (region.CallFrame m) at =
          shows_write_number (region.CallFrame m) (z +ℤ by) (bytes_of size n) _ (some_bytes size n)
          (bytes_of_fit size n) at
      by_region (region.MapValue m k) at =
          shows_write_number (region.MapValue m k) (z +ℤ by) (bytes_of size n) _ (some_bytes size n)
          (bytes_of_fit size n) at

  -- every store
  pub shows_store : (size : Size) (u : Value) (by : ℤ) (v : Value) (x y : ℕ)
      → IsValue (length p.maps) s.next_serial u → FitsSigned w16 by → Represents a u x
      → Represents a v y
      → OkStore (store s size u by v) (alu Add Full64 x (unsigned Full64 by)) (bytes_of size y)
  shows_store size u by Unset x y fits small e f = tt
  shows_store size u by (Num n) x y fits small e f =
      subst (λ y. OkStore (store_number s size u by n) (alu Add Full64 x (unsigned Full64 by))
      (bytes_of size y)) (sym f)
      (shows_store_number size u by n x fits small e)
  shows_store size u by (Ptr q i) x y fits small e f = by_size size u e fits
    where
      by_size : (size : Size) (u : Value) → Represents a u x
          → IsValue (length p.maps) s.next_serial u
          → OkStore (store_pointer s size u by q i) (alu Add Full64 x (unsigned Full64 by))
          (bytes_of size y)
      by_size U64 (Ptr (region.CallFrame m) z) e fits =
          let g = far a (length p.maps) s.next_serial R.layout (region.CallFrame m) fits.0 in
          let at = add_near (region_start a (region.CallFrame m)) z by g.0 g.1 fits.1 small in
          subst (λ x. OkStore (store_pointer s U64 (Ptr (region.CallFrame m) z) by q i)
          (alu Add Full64 x (unsigned Full64 by)) (bytes_of U64 y)) (sym e)
          (subst (λ y. OkStore (store_pointer s U64 (Ptr (region.CallFrame m) z) by q i)
          (alu Add Full64 (word a (region.CallFrame m) z) (unsigned Full64 by))
          (bytes_of U64 y)) (sym f)
          (shows_write_frame m (z +ℤ by) (pieces q i) (to_le_bytes w64 (word a q i)) _ (omega arith)
          (shows-pieces a q i) at))
      by_size size u e fits = tt
