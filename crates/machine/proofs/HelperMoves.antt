-- The call of each helper, from its arguments to the words after it.
use Rattle.machine.proofs.Common.{◌≡◌, ℕ, ◌+◌, ◌<◌, List, length, refl, sym, ap, subst, arith, Ok, Err, Result, Bool, true, false, Option, Some, None, if◌then◌else◌, ◌==◌, length-bytes_at, R1, R2, R3, R4, MapDef, Hash, Array, Num, TrapReason, reg_number, IsRow, Program, State, reg, go_to, content_of, and_then, at_key, update_answer, delete_answer, Helped, pointer_or_zero, put_bytes, remove_key, map_lookup_elem, map_update_elem, map_delete_elem, IsState, reg_fits, map_at, Words, word_at, spot_of, IsInside, area, index_of, Layout, Represents, Related}
use Rattle.std.specs.FinMap as finmap
use Rattle.isa_model.specs.declared.helpers.Helper.{Helper}
use Rattle.isa_model.specs.declared.helpers.Helper.TheVariants.{MapLookupElem, MapUpdateElem, MapDeleteElem, KtimeGetNs}
use Rattle.isa_model.specs.declared.map_defs.MapType.{MapType}
use Rattle.isa_model.specs.Code.MapRows as rows
use Rattle.isa_model.specs.Machine.HelperCalls.{bytes_argument, bytes_at, lookup_call, update_call, delete_call, helper_call, ktime_get_ns, answered}
use Rattle.maps.proofs.KeySizes.{KeyFits-most}
use Rattle.word_machine.specs.Helping.{map_named, named, key_named, value_named, NamesKey, HasPlaces, CallFits, found_at, Calls}
use Rattle.machine.proofs.Arguments.{answered_related, maps_long, with_map, with_argument, with_number, with_bytes_at}
use Rattle.machine.proofs.MapCalls.{address, lookup_shown, update_related, delete_related}

some_key : (map_type : MapType) (n : ℕ) → rows.KeyFits map_type n → 0 < n
some_key Hash n h = let g = h.0 in omega arith
some_key Array n h = omega arith

module _ (p : Program) (clock : ℕ → ℕ) (a : Layout) (s : State) (w : Words) (R : Related p a s w)
    (K : IsState p s) where
  -- what holds of the words where the call of a helper has this result
  abbrev pub OkHelp : Option Helper → Result Helped TrapReason → Type 0
  OkHelp h (Ok helped) =
      CallFits w h × ((v : Words) → Calls clock w h v
      → (b : Layout) × Related p b (go_to (answered helped) (s.slot + 1)) v)
  OkHelp h (Err e) = Unit {0}

  abbrev row : MapDef
  row = (named w).row

  abbrev at2 : ℕ
  at2 = word_at w R2

  abbrev at3 : ℕ
  at3 = word_at w R3

  is_row : map_named w < length p.maps → IsRow row
  is_row h = (R.maps.maps (map_named w) h).is.is_row

  key_fits : map_named w < length p.maps → IsInside w (spot_of at2) row.key_size → NamesKey w
  key_fits h inside = record {
    low = let f = R.layout.few in omega arith;
    map = let l = maps_long p a s w R K in omega arith;
    some_key = some_key row.kind row.key_size (is_row h).key;
    key_size = KeyFits-most row.kind row.key_size (is_row h).key;
    key = inside;
  }

  has_places : map_named w < length p.maps → HasPlaces w
  has_places h = record {
    value_size = (is_row h).short_value;
    places = λ place e.
        let inside = (R.maps.maps (map_named w) h).is.in_range (key_named w) place e in
        let few = (is_row h).few_entries in
        omega arith;
  }

  slot_same : (b : Bool) (t : State) → s.slot ≡ t.slot → s.slot ≡ (if b then t else s).slot
  slot_same true t e = e
  slot_same false t e = refl

  -- the address of what is found
  address_same : (q : Option ℕ) → (h : map_named w < length p.maps)
      → address a (map_named w) (content_of s (map_named w)) (named w)
      (R.maps.maps (map_named w) h) q ≡ found_at w q
  address_same None h = refl
  address_same (Some place) h = refl

  -- the key at r2, and what uses it
  with_key_at : (h : Option Helper) (go : List ℕ → Result Helped TrapReason)
      → map_named w < length p.maps
      → (IsInside w (spot_of at2) row.key_size → OkHelp h (go (key_named w)))
      → OkHelp h (and_then (bytes_argument (reg s R2))
      (λ at. and_then (bytes_at s at row.key_size) go))
  with_key_at h go inside next =
      with_argument p a s w R K (OkHelp h) (λ e. tt) (reg s R2) at2 (reg_fits p s R2 K)
      (R.registers.shown (reg_number R2)) _ (λ at points.
      with_bytes_at p a s w R K (OkHelp h) (λ e. tt) at row.key_size at2
      (some_key row.kind row.key_size (is_row inside).key) points go next)

  pub lookup_moves : OkHelp (Some MapLookupElem) (lookup_call p s)
  lookup_moves =
      let h : Option Helper = Some MapLookupElem in
      with_map p a s w R K (OkHelp h) (λ e. tt) (reg s R1) (reg_fits p s R1 K)
      (R.registers.shown (reg_number R1)) _ (λ inside.
      with_key_at h (λ key. Ok (map_lookup_elem s (map_named w) key)) inside (λ readable. (
        (key_fits inside readable, has_places inside),
        λ v e.
            let m : ℕ = map_named w in
            let found = lookup_shown a m (content_of s m) (named w) (R.maps.maps m inside)
            (key_named w) in
            let answer = pointer_or_zero m (at_key (key_named w) (content_of s m)) in
            let at = subst (Represents a answer)
            (address_same (finmap.get (named w).places (key_named w)) inside) found in (
              a,
              subst (Related p a
                  (go_to (answered (map_lookup_elem s m (key_named w))) (s.slot + 1))) (sym e)
                  (answered_related p a s w answer
                  (found_at w (finmap.get (named w).places (key_named w))) s.slot refl R at),
            ),
      )))

  update_shown : map_named w < length p.maps → IsInside w (spot_of at2) row.key_size
      → IsInside w (spot_of at3) row.value_size
      → OkHelp (Some MapUpdateElem)
      (Ok (map_update_elem row s (map_named w) (key_named w) (value_named w) (word_at w R4)))
  update_shown inside key value = (
    (
      key_fits inside key,
      record {
        some_value = (is_row inside).some_value;
        value_size = (is_row inside).short_value;
        value = value;
      },
    ),
    λ v u.
        let m : ℕ = map_named w in
        let long = length-bytes_at (area w (spot_of at3))
        (index_of (spot_of at3)) row.value_size value in
        let (b, related, same) = update_related p a s w R K m inside (key_named w) (value_named w)
        (word_at w R4) u.0 (map_at u.1 m) u.3.is long u.3.updated in
        let e : ℕ = update_answer row (content_of s m) (key_named w) (word_at w R4) in (
          b,
          subst (Related p b
              (go_to (answered
              (map_update_elem row s m (key_named w) (value_named w) (word_at w R4))) (s.slot + 1)))
              (sym u.2)
              (answered_related p b
              (if e == 0 then put_bytes s m (key_named w) (value_named w) else s)
              (record w { maps = u.1 }) (Num e) u.0 s.slot
              (slot_same (e == 0) (put_bytes s m (key_named w) (value_named w)) refl)
              (subst (λ maps. Related p b
              (if e == 0 then put_bytes s m (key_named w) (value_named w) else s)
              (record w { maps = maps })) (sym u.3.others) related) same),
        ),
  )

  pub update_moves : OkHelp (Some MapUpdateElem) (update_call p s)
  update_moves =
      let h : Option Helper = Some MapUpdateElem in
      with_map p a s w R K (OkHelp h) (λ e. tt) (reg s R1) (reg_fits p s R1 K)
      (R.registers.shown (reg_number R1)) _ (λ inside.
      with_argument p a s w R K (OkHelp h) (λ e. tt) (reg s R2) at2 (reg_fits p s R2 K)
      (R.registers.shown (reg_number R2)) _ (λ at points.
      with_argument p a s w R K (OkHelp h) (λ e. tt) (reg s R3) at3 (reg_fits p s R3 K)
      (R.registers.shown (reg_number R3)) _ (λ from from_points.
      with_number p a s w R K (OkHelp h) (λ e. tt) (reg s R4) (word_at w R4)
      (R.registers.shown (reg_number R4)) _
      (with_bytes_at p a s w R K (OkHelp h) (λ e. tt) at row.key_size at2
      (some_key row.kind row.key_size (is_row inside).key) points _ (λ key.
      with_bytes_at p a s w R K (OkHelp h) (λ e. tt) from row.value_size at3
      (is_row inside).some_value from_points _ (λ value.
      update_shown inside key value))))))

  pub delete_moves : OkHelp (Some MapDeleteElem) (delete_call p s)
  delete_moves =
      let h : Option Helper = Some MapDeleteElem in
      with_map p a s w R K (OkHelp h) (λ e. tt) (reg s R1) (reg_fits p s R1 K)
      (R.registers.shown (reg_number R1)) _ (λ inside.
      with_key_at h (λ key. Ok (map_delete_elem row s (map_named w) key)) inside (λ readable. (
        key_fits inside readable,
        λ v d.
            let m : ℕ = map_named w in
            let e : ℕ = delete_answer row (content_of s m) (key_named w) in
            let (related, same) = delete_related p a s w R K m inside (key_named w) d.0
            (map_at d.1 m) d.3.is d.3.deleted in (
              a,
              subst (Related p a
                  (go_to (answered (map_delete_elem row s m (key_named w))) (s.slot + 1))) (sym d.2)
                  (answered_related p a (if e == 0 then remove_key s m (key_named w) else s)
                  (record w { maps = d.1 }) (Num e) d.0 s.slot
                  (slot_same (e == 0) (remove_key s m (key_named w)) refl)
                  (subst (λ maps. Related p a (if e == 0 then remove_key s m (key_named w) else s)
                  (record w { maps = maps })) (sym d.3.others) related) same),
            ),
      )))

  pub time_moves : OkHelp (Some KtimeGetNs) (Ok (ktime_get_ns clock s))
  time_moves = (
    tt,
    λ v e. (
      a,
      subst (Related p a (go_to (answered (ktime_get_ns clock s)) (s.slot + 1))) (sym e)
          (answered_related p a (record s { clock_calls = s.clock_calls + 1 })
          (record w { clock_calls = w.clock_calls + 1 }) (Num (clock s.clock_calls))
          (clock w.clock_calls) s.slot refl asked (ap clock R.clock_calls)),
    ),
  )
    where
      asked : Related p a (record s { clock_calls = s.clock_calls + 1 })
          (record w { clock_calls = w.clock_calls + 1 })
      asked = record {
        slot = R.slot;
        layout = R.layout;
        registers = R.registers;
        frames = R.frames;
        packet = R.packet;
        end = R.end;
        interface = R.interface;
        queue = R.queue;
        maps = R.maps;
        clock_calls = ap (λ n. n + 1) R.clock_calls;
      }

  -- the call of any helper
  pub helper_moves : (h : Option Helper) → OkHelp h (helper_call p clock s h)
  helper_moves (Some MapLookupElem) = lookup_moves
  helper_moves (Some MapUpdateElem) = update_moves
  helper_moves (Some MapDeleteElem) = delete_moves
  helper_moves (Some KtimeGetNs) = time_moves
  helper_moves None = tt
