-- Calls of helpers: what their arguments are, and the answer in r0.
use Rattle.machine.proofs.Common.{◌≡◌, ℕ, zero, suc, ◌+◌, ◌-◌, ◌/◌, ◌<◌, List, [], ◌∷◌, ◌++◌, length, drop, map, replicate, refl, sym, ap, subst, ◌∙◌, arith, ℤ, pos, negsuc, ◌+ℤ◌, Ok, Err, Result, Bool, true, false, Some, get_or-set_same, get_or-set_other, length-set, slice_set, if◌then◌else◌, slice_index, slice_index_or, slice_get, ints, get_or-map, slice_get-get_or, list_any, list_all, max_maps, R1, MapDef, Value, Unset, Num, Ptr, Cell, TrapReason, UnsetRead, BadAccess, BadHelper, Program, State, value_at, go_to, and_then, is_unwritten, is_byte, byte_in, index_at, read, Helped, IsOffset, IsValue, IsState, map_at, length-rows_of, region_of, map_base, Layout, region_start, moved, Represents, RepresentsCells, RepresentsRegisters, Related}
use Rattle.isa_model.specs.declared.values.Region.TheVariants as region
use Rattle.isa_model.specs.Machine.HelperCalls.{MapArgument, map_of_row, map_argument, BytesArgument, bytes_argument, number_argument, bytes_in, bytes_at, answered}
use Rattle.word_machine.specs.Words.{Words, word_at, spot_of, IsInside, get}
use Rattle.word_machine.specs.Helping.{map_named, named, words_answered as answered_words}
use Rattle.machine.proofs.Addresses.{moved_is}
use Rattle.machine.proofs.Arithmetic.{far}
use Rattle.machine.proofs.Cells.{bytes-shown}
use Rattle.machine.proofs.Loading.{OkRead, shows_read}

-- ---- the answer in r0, and r1 to r5 unset

get_or-drop : {X : Type 0} (n : ℕ) (xs : List X) (j k : ℕ) (d : X) → n + j ≡ k
    → slice_index_or (drop n xs) j d ≡ slice_index_or xs k d
get_or-drop zero xs j k d e = let same : j ≡ k = omega arith in ap (λ i. slice_index_or xs i d) same
get_or-drop (suc n) [] j k d e = refl
get_or-drop (suc n) (x ∷ xs) j zero d e = absurd (omega arith)
get_or-drop (suc n) (x ∷ xs) j (suc k) d e = get_or-drop n xs j k d (omega arith)

pub answered_shown : (a : Layout) (regs : List Value) (words : List ℕ) (v : Value) (x : ℕ)
    → RepresentsRegisters a regs words → Represents a v x
    → RepresentsRegisters a (v ∷ (replicate 5 Unset ++ drop 6 regs)) (slice_set words 0 x)
answered_shown a regs words v x R h =
    record { count = length-set words 0 x ∙ R.count; shown = by_register }
  where
    later : (j k : ℕ) → 6 + j ≡ k
        → Represents a (slice_index_or (drop 6 regs) j Unset) (slice_index (slice_set words 0 x) k)
    later j k e =
        subst (λ u. Represents a u (slice_index (slice_set words 0 x) k))
        (sym (get_or-drop 6 regs j k Unset e))
        (subst (Represents a (value_at regs k))
        (sym (get_or-set_other words 0 k x 0 (λ z. omega arith))) (R.shown k))

    by_register : (k : ℕ)
        → Represents a (value_at (v ∷ (replicate 5 Unset ++ drop 6 regs)) k)
        (slice_index (slice_set words 0 x) k)
    by_register zero =
        let c = R.count in
        subst (Represents a v) (sym (get_or-set_same words 0 x 0 (omega arith))) h
    by_register (suc zero) = tt
    by_register (suc (suc zero)) = tt
    by_register (suc (suc (suc zero))) = tt
    by_register (suc (suc (suc (suc zero)))) = tt
    by_register (suc (suc (suc (suc (suc zero))))) = tt
    by_register (suc (suc (suc (suc (suc (suc j)))))) =
        later j (suc (suc (suc (suc (suc (suc j)))))) (omega arith)

pub answered_related : (p : Program) (b : Layout) (t : State) (u : Words) (v : Value) (x n : ℕ)
    → n ≡ t.slot → Related p b t u → Represents b v x
    → Related p b (go_to (answered (record { answer = v; state = t })) (n + 1))
    (answered_words u x u.maps u.clock_calls)
answered_related p b t u v x n same R h = record {
  slot = ap (λ n. n + 1) (R.slot ∙ sym same);
  layout = R.layout;
  registers = answered_shown b t.regs u.regs v x R.registers h;
  frames = R.frames;
  packet = R.packet;
  end = R.end;
  interface = R.interface;
  queue = R.queue;
  maps = R.maps;
  clock_calls = R.clock_calls;
}

-- ---- what the arguments are

module _ (p : Program) (a : Layout) (s : State) (w : Words) (R : Related p a s w)
    (K : IsState p s) where
  -- x is the address to which an argument points
  abbrev pub Points : BytesArgument → ℕ → Type 0
  Points at x = pos x ≡ pos (region_start a at.region) +ℤ at.offset

  pub maps_long : length w.maps ≡ length p.maps
  maps_long = sym (length-rows_of w.maps) ∙ ap length R.maps.rows

  -- a map of the words has the program's row
  pub row_of : (m : ℕ) → m < length p.maps → slice_get p.maps m ≡ Some (map_at w.maps m).row
  row_of m h =
      let long = maps_long in
      let d : MapDef = (map_at [] 0).row in
      slice_get-get_or p.maps m d h
      ∙ ap (λ rows. Some (slice_index_or rows m d)) (sym R.maps.rows)
      ∙ ap Some (get_or-map (λ m. m.row) w.maps m (map_at [] 0) d (omega arith))

  module _ (Q : Result Helped TrapReason → Type 0) (traps : (e : TrapReason) → Q (Err e)) where
    -- the map that r1 names
    index_named : (m x : ℕ) (z : ℤ) → m < max_maps → IsOffset z → x ≡ moved (map_base m) z
        → region_of x - 16 ≡ m
    index_named m x (pos n) h l e = omega (arith, ints)
    index_named m x (negsuc n) h l e = omega (arith, ints)

    pub with_map : (v : Value) → IsValue (length p.maps) s.next_serial v
        → Represents a v (word_at w R1) → (go : MapArgument → Result Helped TrapReason)
        → (map_named w < length p.maps
        → Q (go (record { index = map_named w; row = (named w).row })))
        → Q (and_then (map_argument p v) go)
    with_map Unset fits shown go next = traps BadHelper
    with_map (Num n) fits shown go next = traps BadHelper
    with_map (Ptr region.Context z) fits shown go next = traps BadHelper
    with_map (Ptr region.Packet z) fits shown go next = traps BadHelper
    with_map (Ptr region.PacketEnd z) fits shown go next = traps BadHelper
    with_map (Ptr (region.CallFrame n) z) fits shown go next = traps BadHelper
    with_map (Ptr (region.MapValue m n) z) fits shown go next = traps BadHelper
    with_map (Ptr (region.Map m) z) fits shown go next =
        let few = R.layout.few in
        let inside = fits.0 in
        let same : map_named w ≡ m = index_named m (word_at w R1) z (omega arith) fits.1 shown in
        let found : slice_get p.maps m ≡ Some (named w).row =
        row_of m inside ∙ ap (λ k. Some (map_at w.maps k).row) (sym same) in
        subst (λ o. Q (and_then (map_of_row m o) go)) (sym found)
        (subst (λ k. Q (go (record { index = k; row = (named w).row }))) same (next (omega arith)))

    pub with_argument : (v : Value) (x : ℕ) → IsValue (length p.maps) s.next_serial v
        → Represents a v x → (go : BytesArgument → Result Helped TrapReason)
        → ((at : BytesArgument) → Points at x → Q (go at)) → Q (and_then (bytes_argument v) go)
    with_argument Unset x fits shown go next = traps BadHelper
    with_argument (Num n) x fits shown go next = traps BadHelper
    with_argument (Ptr region.Context z) x fits shown go next = traps BadHelper
    with_argument (Ptr region.PacketEnd z) x fits shown go next = traps BadHelper
    with_argument (Ptr (region.Map m) z) x fits shown go next = traps BadHelper
    with_argument (Ptr region.Packet z) x fits shown go next =
        let f = far a (length p.maps) s.next_serial R.layout region.Packet fits.0 in
        next (record { region = region.Packet; offset = z })
        (ap pos shown ∙ moved_is (region_start a region.Packet) z f.0 fits.1)
    with_argument (Ptr (region.CallFrame n) z) x fits shown go next =
        let f = far a (length p.maps) s.next_serial R.layout (region.CallFrame n) fits.0 in
        next (record { region = region.CallFrame n; offset = z })
        (ap pos shown ∙ moved_is (region_start a (region.CallFrame n)) z f.0 fits.1)
    with_argument (Ptr (region.MapValue m n) z) x fits shown go next =
        let f = far a (length p.maps) s.next_serial R.layout (region.MapValue m n) fits.0 in
        next (record { region = region.MapValue m n; offset = z })
        (ap pos shown ∙ moved_is (region_start a (region.MapValue m n)) z f.0 fits.1)

    pub with_number : (v : Value) (x : ℕ) → Represents a v x → (go : ℕ → Result Helped TrapReason)
        → Q (go x) → Q (and_then (number_argument v) go)
    with_number Unset x shown go next = traps BadHelper
    with_number (Ptr r z) x shown go next = traps BadHelper
    with_number (Num n) x shown go next = subst (λ k. Q (go k)) shown next

    -- the bytes at an argument are those at the address
    pub with_bytes_at : (at : BytesArgument) (n x : ℕ) → 0 < n → Points at x
        → (go : List ℕ → Result Helped TrapReason)
        → (IsInside w (spot_of x) n → Q (go (get w (spot_of x) n)))
        → Q (and_then (bytes_at s at n) go)
    with_bytes_at at n x some points go next =
        by_read (read s at.region (index_at at.region at.offset) n)
        (shows_read p a s w R K at.region at.offset n x some points)
      where
        by_bytes : (cs : List Cell) → RepresentsCells a cs (get w (spot_of x) n)
            → IsInside w (spot_of x) n → (b : Bool) → list_all is_byte cs ≡ b
            → Q (and_then (if b then Ok (map byte_in cs) else Err BadAccess) go)
        by_bytes cs shown inside true e =
            subst (λ bytes. Q (go bytes)) (bytes-shown a cs (get w (spot_of x) n) e shown)
            (next inside)
        by_bytes cs shown inside false e = traps BadAccess

        by_unwritten : (cs : List Cell) → RepresentsCells a cs (get w (spot_of x) n)
            → IsInside w (spot_of x) n → (b : Bool)
            → Q (and_then
            (if b then Err UnsetRead else if list_all is_byte cs then Ok (map byte_in cs)
            else Err BadAccess) go)
        by_unwritten cs shown inside true = traps UnsetRead
        by_unwritten cs shown inside false = by_bytes cs shown inside (list_all is_byte cs) refl

        by_read : (r : Result (List Cell) TrapReason) → OkRead p a s w R K n r x
            → Q (and_then (and_then r bytes_in) go)
        by_read (Err e) h = traps e
        by_read (Ok cs) h = by_unwritten cs h.1 h.0 (list_any is_unwritten cs)
