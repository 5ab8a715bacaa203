-- Where the cells that a read finds are in the blocks.
use Rattle.machine.proofs.Common.{◌≡◌, ℕ, ◌+◌, ◌-◌, ◌*◌, ◌/◌, ◌%◌, ◌<◌, ◌≤◌, List, [], length, take, drop, map, refl, sym, ap, subst, ◌∙◌, arith, ℤ, pos, negsuc, ◌+ℤ◌, Ok, Err, Result, Bool, true, false, Option, Some, None, if◌then◌else◌, nat_le, ◌==◌, IfOk, ints, nat_tests, length-map, All-get_or, option_map, w16, FitsSigned, bytes_at, bytes_of_bytes, stack_size, max_maps, offset_limit, Full64, Size, U8, U16, U32, U64, Add, Region, Value, Unset, Num, Ptr, Cell, Byte, TrapReason, BadAccess, size_bytes, alu, unsigned, number_from, State, content_of, call_frame_at, new_call_frame, IsValue, IsCallFrame, IsState, region_size, context_base, packet_base, values_base, frame_end, packet_index, block_index, first_frame, map_at, Layout, region_start, moved, word, Represents, RepresentsCells, Related}
use Rattle.isa_model.specs.declared.values.Region.TheVariants as region
use Rattle.isa_model.proofs.ByteCells.{take-drop-Byte}
use Rattle.isa_model.specs.{Program, max_packet}
use Rattle.isa_model.specs.Machine.Memory.{and_then, index_of_serial, key_value_at, index_from, index_at, place_in, cells_at, read, number_in, value_in, as_number, memory_load, context_field, context_load, load, call_frame_index as frame_index_of}
use Rattle.std.proofs.lemmas.List.Quantifiers.{position-Some}
use Rattle.word_machine.proofs.FrameLaws.{spot_frame}
use Rattle.word_machine.specs.Words.{Words, InPacket, InFrames, InBlock, spot_of, IsInside, get, in_context, word_from, CanLoad}
use Rattle.machine.proofs.LiveValues.{live_map, value_inside, value_at_block, value_long}
use Rattle.isa_model.proofs.AccessLaws.{load_fits}
use Rattle.std.proofs.lemmas.Nat.{from_le_bytes-to_le_bytes_8}
use Rattle.machine.proofs.Addresses.{add_near, word_far}
use Rattle.machine.proofs.Arithmetic.{far}
use Rattle.machine.proofs.Cells.{shows-take, shows-drop, shows-bytes, shows_number_in, shows_value_in, OkNumber, Spelled, OkSpelled}

-- ---- which block an address leads to

pub spot_packet : (i : ℕ) → i ≤ max_packet → spot_of (packet_base + i) ≡ InPacket i
spot_packet i h =
    let high : (packet_base + i) / region_size ≡ 2 = omega arith in
    let low : packet_index (packet_base + i) ≡ i = omega arith in
    rw (high, low) refl

pub spot_block : (m i : ℕ) → m < max_maps → i < 2 * offset_limit
    → spot_of (values_base m + i) ≡ InBlock m i
spot_block m i h g =
    let high : (values_base m + i) / region_size ≡ 32 + m = omega arith in
    let low : block_index (values_base m + i) ≡ i = omega arith in
    let same_map : 32 + m - 32 ≡ m = omega arith in
    let no_packet : (32 + m == 2) ≡ false = grind (arith, nat_tests) in
    let no_frame : nat_le first_frame (values_base m + i) ≡ false = grind (arith, nat_tests) in
    let in_block : nat_le 32 (32 + m) ≡ true = grind (arith, nat_tests) in
    rw (high, no_packet, no_frame, in_block, same_map, low) refl

pub context_not : (x : ℕ) → 8589934592 ≤ x → in_context x ≡ false
context_not x h = grind (arith, nat_tests)

module _ (p : Program) (a : Layout) (s : State) (w : Words) (R : Related p a s w)
    (K : IsState p s) where
  -- a read that finds its cells is inside the packet or a block, and the bytes there represent them
  abbrev pub OkRead : ℕ → Result (List Cell) TrapReason → ℕ → Type 0
  OkRead n (Ok cs) x =
      IsInside w (spot_of x) n × RepresentsCells a cs (get w (spot_of x) n) × (8589934592 ≤ x)
  OkRead n (Err e) x = Unit {0}

  -- the n cells from an index of some cells on
  abbrev found : Option (List Cell) → Option ℕ → ℕ → Result (List Cell) TrapReason
  found cells o n = and_then (place_in cells o n) (λ i. Ok (cells_at cells i n))

  found_in : (cells : List Cell) (i n x : ℕ)
      → (i + n ≤ length cells → OkRead n (Ok (take n (drop i cells))) x)
      → OkRead n (found (Some cells) (Some i) n) x
  found_in cells i n x h = by_test (nat_le (i + n) (length cells)) refl
    where
      by_test : (b : Bool) → nat_le (i + n) (length cells) ≡ b
          → OkRead n (and_then (if b then Ok i else Err BadAccess)
          (λ i. Ok (cells_at (Some cells) i n))) x
      by_test true e = h (grind (arith, nat_tests))
      by_test false e = tt

  -- the bytes of a block represent their cells, also a part of them
  shows-part : (bytes block : List ℕ) (from i n : ℕ) → bytes_at block from (length bytes) ≡ bytes
      → i + n ≤ length bytes
      → RepresentsCells a (take n (drop i (map Byte bytes))) (bytes_at block (from + i) n)
  shows-part bytes block from i n e h =
      subst (λ cs. RepresentsCells a cs (bytes_at block (from + i) n))
      (sym (take-drop-Byte bytes i n))
      (subst (λ bs. RepresentsCells a (map Byte (bytes_at bytes i n)) bs)
      (ap (λ bs. bytes_at bs i n) (sym e) ∙ bytes_of_bytes block from (length bytes) i n h)
      (shows-bytes a (bytes_at bytes i n)))

  read_packet : (i n x : ℕ) → x ≡ packet_base + i
      → OkRead n (found (Some (map Byte s.packet)) (Some i) n) x
  read_packet i n x e = found_in (map Byte s.packet) i n x (λ h.
      let long = length-map s.packet Byte in
      let short = K.short in
      let spot : spot_of x ≡ InPacket i = ap spot_of e ∙ spot_packet i (omega arith) in
      let same : length w.packet ≡ length s.packet = ap length R.packet in
      let cells : RepresentsCells a (take n (drop i (map Byte s.packet))) (bytes_at w.packet i n) =
      subst (λ bs. RepresentsCells a (take n (drop i (map Byte s.packet))) (bytes_at bs i n))
      (sym R.packet)
      (subst (λ cs. RepresentsCells a cs (bytes_at s.packet i n))
      (sym (take-drop-Byte s.packet i n)) (shows-bytes a (bytes_at s.packet i n))) in
      let far : 8589934592 ≤ x = omega arith in
      rw spot (omega arith, cells, far))

  -- the call frame at a depth
  pub frame_whole : (j : ℕ) → j < length s.frames
      → length (call_frame_at s.frames j).cells ≡ stack_size
  frame_whole j h =
      (All-get_or (IsCallFrame p s.next_serial) s.frames j (new_call_frame 0 0 []) h K.frames).whole

  read_frame : (j i n x : ℕ) → 0 < n → j < length s.frames → x + stack_size ≡ frame_end j + i
      → OkRead n (found (Some (call_frame_at s.frames j).cells) (Some i) n) x
  read_frame j i n x some here e = found_in (call_frame_at s.frames j).cells i n x (λ h.
      let f = call_frame_at s.frames j in
      let whole = frame_whole j here in
      let block = R.frames.whole in
      let few = K.depth in
      let spot : spot_of x ≡ InFrames (j * stack_size + i) =
      spot_frame j i x (omega arith) (omega arith) e in
      let shown = R.frames.frames j here in
      let part = shows-take a n (drop i f.cells)
      (drop i (bytes_at w.frames (j * stack_size) stack_size))
      (shows-drop a i f.cells (bytes_at w.frames (j * stack_size) stack_size) shown.cells) in
      let cells = subst (RepresentsCells a (take n (drop i f.cells)))
      (bytes_of_bytes w.frames (j * stack_size) stack_size i n (omega arith)) part in
      let far : 8589934592 ≤ x = omega arith in
      rw spot (omega arith, cells, far))

  -- the depth of a live call frame's serial is its index
  pub live_depth : (n j : ℕ) → frame_index_of s.frames n ≡ Some j
      → (j < length s.frames) × (a.depth n ≡ j)
  live_depth n j e =
      let (here, same, first) =
      position-Some (λ f. f.serial == n) s.frames j (new_call_frame 0 0 []) e in
      let serial : (call_frame_at s.frames j).serial ≡ n = grind (arith, nat_tests) in
      (here, ap a.depth (sym serial) ∙ (R.frames.frames j here).depth)

  -- a live map value's serial finds it, in a map of the program
  pub live_value : (m n j : ℕ) → index_of_serial (content_of s m) n ≡ Some j
      → (j < length (content_of s m)) × ((key_value_at (content_of s m) j).1.serial ≡ n)
      × (m < length p.maps)
  live_value m n j e =
      let (here, same, first) = position-Some (λ e. e.1.serial == n) (content_of s m) j
      ([], record { serial = 0; bytes = [] }) e in
      (here, grind (arith, nat_tests), live_map p s m j K here)

  -- where in its block the i-th byte of a live map value is
  pub spot_value : (m j i n x : ℕ) → j < length (content_of s m) → m < length p.maps
      → i + n ≤ length (key_value_at (content_of s m) j).1.bytes
      → x ≡ values_base m + a.value_start m (key_value_at (content_of s m) j).1.serial + i
      → (spot_of x ≡ InBlock m (a.value_start m (key_value_at (content_of s m) j).1.serial + i))
      × (a.value_start m (key_value_at (content_of s m) j).1.serial + i + n
      ≤ length (map_at w.maps m).block)
  spot_value m j i n x here has_row h e =
      let from : ℕ = a.value_start m (key_value_at (content_of s m) j).1.serial in
      let shown = R.maps.maps m has_row in
      let inside = value_inside a m (content_of s m) (map_at w.maps m) shown j here in
      let long = value_long a m (content_of s m) (map_at w.maps m) shown j here in
      let short = shown.is.is_row.short_value in
      let low = R.layout.low m (key_value_at (content_of s m) j).1.serial in
      let few = R.layout.few in
      let at : x ≡ values_base m + (from + i) = omega arith in
      (ap spot_of at ∙ spot_block m (from + i) (omega arith) (omega arith), omega arith)

  read_map_value : (m j i n x : ℕ) → j < length (content_of s m) → m < length p.maps
      → x ≡ values_base m + a.value_start m (key_value_at (content_of s m) j).1.serial + i
      → OkRead n (found (Some (map Byte (key_value_at (content_of s m) j).1.bytes)) (Some i) n) x
  read_map_value m j i n x here has_row e =
      let bytes = (key_value_at (content_of s m) j).1.bytes in
      let from : ℕ = a.value_start m (key_value_at (content_of s m) j).1.serial in
      found_in (map Byte bytes) i n x (λ h.
      let long = length-map bytes Byte in
      let (spot, inside) = spot_value m j i n x here has_row (omega arith) e in
      let cells = shows-part bytes (map_at w.maps m).block from i n
      (value_at_block a m (content_of s m) (map_at w.maps m) (R.maps.maps m has_row) j here)
      (omega arith) in
      let far : 8589934592 ≤ x = omega arith in
      rw spot (inside, cells, far))

  -- a read through any region
  pub shows_read : (r : Region) (z : ℤ) (n x : ℕ) → 0 < n → pos x ≡ pos (region_start a r) +ℤ z
      → OkRead n (read s r (index_at r z) n) x
  shows_read region.Context z n x some e = tt
  shows_read region.PacketEnd z n x some e = tt
  shows_read (region.Map m) z n x some e = tt
  shows_read region.Packet (pos i) n x some e = read_packet i n x (omega (arith, ints))
  shows_read region.Packet (negsuc i) n x some e = tt
  shows_read (region.CallFrame m) z n x some e =
      by_frame (frame_index_of s.frames m) refl (z +ℤ pos stack_size) refl
    where
      by_frame : (o : Option ℕ) → frame_index_of s.frames m ≡ o → (y : ℤ) → z +ℤ pos stack_size ≡ y
          → OkRead n (found (option_map (λ j. (call_frame_at s.frames j).cells) o) (index_from y) n)
          x
      by_frame None f y g = tt
      by_frame (Some j) f (negsuc i) g = tt
      by_frame (Some j) f (pos i) g =
          let (here, depth) = live_depth m j f in
          read_frame j i n x some here (omega (arith, ints))
  shows_read (region.MapValue m k) z n x some e =
      by_value (index_of_serial (content_of s m) k) refl z refl
    where
      by_value : (o : Option ℕ) → index_of_serial (content_of s m) k ≡ o → (y : ℤ) → z ≡ y
          → OkRead n (found (option_map (λ j. map Byte (key_value_at (content_of s m) j).1.bytes) o)
          (index_from y) n) x
      by_value None f y g = tt
      by_value (Some j) f (negsuc i) g = tt
      by_value (Some j) f (pos i) g =
          let (here, serial, has_row) = live_value m k j f in
          let same = ap (a.value_start m) serial in
          read_map_value m j i n x here has_row (omega (arith, ints))

  -- ---- loads

  abbrev pub OkLoad : Size → Result Value TrapReason → ℕ → Type 0
  OkLoad size (Ok v) x = CanLoad w size x × Represents a v (word_from w size x)
  OkLoad size (Err e) x = Unit {0}

  abbrev OkGet : ℕ → Result Value TrapReason → ℕ → Type 0
  OkGet n (Ok v) x = IsInside w (spot_of x) n × Spelled a v (get w (spot_of x) n) × (8589934592 ≤ x)
  OkGet n (Err e) x = Unit {0}

  got_number : (n x : ℕ) (r : Result (List Cell) TrapReason) → OkRead n r x
      → OkGet n (as_number (and_then r number_in)) x
  got_number n x (Err e) h = tt
  got_number n x (Ok cs) h =
      with_number (number_in cs) (shows_number_in a cs (get w (spot_of x) n) h.1)
    where
      with_number : (r : Result ℕ TrapReason) → OkNumber a r (number_from (get w (spot_of x) n))
          → OkGet n (as_number r) x
      with_number (Ok k) g = (h.0, g, h.2)
      with_number (Err e) g = tt

  got_value : (x : ℕ) (r : Result (List Cell) TrapReason) → OkRead 8 r x
      → OkGet 8 (and_then r value_in) x
  got_value x (Err e) h = tt
  got_value x (Ok cs) h = with_value (value_in cs) (shows_value_in a cs (get w (spot_of x) 8) h.1)
    where
      with_value : (r : Result Value TrapReason) → OkSpelled a r (get w (spot_of x) 8) → OkGet 8 r x
      with_value (Ok v) g = (h.0, g, h.2)
      with_value (Err e) g = tt

  -- the value that bytes spell is represented by their number
  spelled_shows : (v : Value) (bs : List ℕ) → IsValue (length p.maps) s.next_serial v
      → Spelled a v bs → Represents a v (number_from bs)
  spelled_shows Unset bs fits e = tt
  spelled_shows (Num n) bs fits e = e
  spelled_shows (Ptr r z) bs fits e =
      let f = far a (length p.maps) s.next_serial R.layout r fits.0 in
      let g = word_far a r z f.0 f.1 fits.1 in
      let g1 = g.1 in
      ap number_from e ∙ from_le_bytes-to_le_bytes_8 (word a r z) (omega arith)

  -- the number at an address is what a load finds, except 4-byte loads of the context
  got : (size : Size) (x : ℕ) (r : Result Value TrapReason)
      → IfOk r (IsValue (length p.maps) s.next_serial) → OkGet (size_bytes size) r x
      → OkLoad size r x
  got size x (Err e) fits h = tt
  got U8 x (Ok v) fits h = (h.0, spelled_shows v _ fits h.1)
  got U16 x (Ok v) fits h = (h.0, spelled_shows v _ fits h.1)
  got U64 x (Ok v) fits h = (h.0, spelled_shows v _ fits h.1)
  got U32 x (Ok v) fits h =
      let out = context_not x h.2 in rw out ((λ e. h.0), spelled_shows v _ fits h.1)

  shows_memory_load : (size : Size) (r : Region) (z : ℤ) (x : ℕ)
      → IfOk (memory_load s size r (index_at r z)) (IsValue (length p.maps) s.next_serial)
      → pos x ≡ pos (region_start a r) +ℤ z → OkLoad size (memory_load s size r (index_at r z)) x
  shows_memory_load U8 r z x fits e =
      got U8 x _ fits
      (got_number 1 x (read s r (index_at r z) 1) (shows_read r z 1 x (omega arith) e))
  shows_memory_load U16 r z x fits e =
      got U16 x _ fits
      (got_number 2 x (read s r (index_at r z) 2) (shows_read r z 2 x (omega arith) e))
  shows_memory_load U32 r z x fits e =
      got U32 x _ fits
      (got_number 4 x (read s r (index_at r z) 4) (shows_read r z 4 x (omega arith) e))
  shows_memory_load U64 r z x fits e =
      got U64 x _ fits
      (got_value x (read s r (index_at r z) 8) (shows_read r z 8 x (omega arith) e))

  -- the context's fields
  shows_field : (i : ℕ) → OkLoad U32 (context_field s (Some i)) (context_base + i)
  shows_field i = zero (i == 0) refl
    where
      last : (b : Bool) → (i == 16) ≡ b
          → OkLoad U32 (if b then Ok (Num s.queue) else Err BadAccess) (context_base + i)
      last true e = let f : i ≡ 16 = grind (arith, nat_tests) in rw f ((λ h. absurd (cc)), R.queue)
      last false e = tt

      third : (b : Bool) → (i == 12) ≡ b
          → OkLoad U32
          (if b then Ok (Num s.interface) else if i == 16 then Ok (Num s.queue) else Err BadAccess)
          (context_base + i)
      third true e =
          let f : i ≡ 12 = grind (arith, nat_tests) in rw f ((λ h. absurd (cc)), R.interface)
      third false e = last (i == 16) refl

      second : (b : Bool) → (i == 4) ≡ b
          → OkLoad U32
          (if b then Ok (Ptr region.PacketEnd (pos 0)) else if i == 12 then Ok (Num s.interface)
          else if i == 16 then Ok (Num s.queue) else Err BadAccess) (context_base + i)
      second true e =
          let f : i ≡ 4 = grind (arith, nat_tests) in
          rw f
          ((λ h. absurd (cc)), ap (λ n. packet_base + n) (ap length R.packet ∙ sym R.end))
      second false e = third (i == 12) refl

      zero : (b : Bool) → (i == 0) ≡ b
          → OkLoad U32
          (if b then Ok (Ptr region.Packet (pos 0))
          else if i == 4 then Ok (Ptr region.PacketEnd (pos 0))
          else if i == 12 then Ok (Num s.interface) else if i == 16 then Ok (Num s.queue)
          else Err BadAccess) (context_base + i)
      zero true e =
          let f : i ≡ 0 = grind (arith, nat_tests) in
          rw f ((λ h. absurd (cc)), refl {a = packet_base})
      zero false e = second (i == 4) refl

  shows_context_load : (size : Size) (z : ℤ) (x : ℕ) → pos x ≡ pos context_base +ℤ z
      → OkLoad size (context_load s size (index_from z)) x
  shows_context_load U8 z x e = tt
  shows_context_load U16 z x e = tt
  shows_context_load U64 z x e = tt
  shows_context_load U32 (negsuc i) x e = tt
  shows_context_load U32 (pos i) x e =
      let f : context_base + i ≡ x = omega (arith, ints) in
      subst (OkLoad U32 (context_field s (Some i))) f (shows_field i)

  -- every load
  pub shows_load : (size : Size) (v : Value) (by : ℤ) (x : ℕ)
      → IsValue (length p.maps) s.next_serial v → FitsSigned w16 by → Represents a v x
      → OkLoad size (load s size v by) (alu Add Full64 x (unsigned Full64 by))
  shows_load size (Num n) by x fits small e = tt
  shows_load size Unset by x fits small e = tt
  shows_load size (Ptr r z) by x fits small e =
      let f = far a (length p.maps) s.next_serial R.layout r fits.0 in
      let at = add_near (region_start a r) z by f.0 f.1 fits.1 small in
      subst (λ x. OkLoad size (load s size (Ptr r z) by) (alu Add Full64 x (unsigned Full64 by)))
      (sym e)
      (by_region r at (load_fits p s size (Ptr r z) by K))
    where
      by_region : (r : Region)
          → pos (alu Add Full64 (moved (region_start a r) z) (unsigned Full64 by))
          ≡ pos (region_start a r) +ℤ (z +ℤ by)
          → IfOk (load s size (Ptr r z) by) (IsValue (length p.maps) s.next_serial)
          → OkLoad size (load s size (Ptr r z) by)
          (alu Add Full64 (word a r z) (unsigned Full64 by))
      by_region region.Context at fit = shows_context_load size (z +ℤ by) _ at
      by_region region.Packet at fit = shows_memory_load size region.Packet (z +ℤ by) _ fit at
      by_region (region.Map m) at fit = shows_memory_load size (region.Map m) (z +ℤ by) _ fit at
      by_region (region.CallFrame m) at fit =
          shows_memory_load size (region.CallFrame m) (z +ℤ by) _ fit at
      by_region (region.MapValue m k) at fit =
          shows_memory_load size (region.MapValue m k) (z +ℤ by) _ fit at
      by_region region.PacketEnd at fit = no_end size
        where
          no_end : (size : Size)
              → OkLoad size (load s size (Ptr region.PacketEnd z) by)
              (alu Add Full64 (word a region.PacketEnd z) (unsigned Full64 by))
          no_end U8 = tt
          no_end U16 = tt
          no_end U32 = tt
          no_end U64 = tt
