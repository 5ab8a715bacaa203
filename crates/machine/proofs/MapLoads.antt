-- Wide loads of a map's only value: it begins where its map's block begins.
use Rattle.machine.proofs.Common.{◌≡◌, ℕ, ◌+◌, ◌*◌, ◌<◌, [], ◌∷◌, length, refl, sym, ap, ◌∙◌, arith, zero-mul, Option, Some, None, slice_get, IsSomeAnd, option_map, get, slice_get_within, max_maps, MapDef, Array, HoldsOffset, Program, State, Content, content_of, one_serial, value_pointer, IsState, Places, MapState, map_at, values_base, Words, Layout, Represents, by_place, RepresentsMap, Related}
use Rattle.byteorder.specs.Endian.{little_bytes}
use Rattle.map_indexes.proofs.ArrayLaws.{get_index}
use Rattle.machine.proofs.LiveValues.{value_starts, in_block, keyed_at}
use Rattle.machine.proofs.Arguments.{row_of}
use Rattle.machine.proofs.MapCalls.{found}

module _ (a : Layout) (m : ℕ) (state : MapState) where
  -- an array of one key has a value
  has_value : (content : Content) → RepresentsMap a m content state → state.row.kind ≡ Array
      → state.row.entries ≡ 1 → 0 < length content
  has_value [] shown array one =
      let here : get state.places (little_bytes 4 0) ≡ Some 0 =
      ap (λ (P : Places). get P (little_bytes 4 0)) (shown.is.array_places array)
      ∙ get_index state.row.entries 0 (omega arith) (omega arith) in
      let none : None ≡ Some (by_place state.row.value_size state.block 0) =
      found a m [] state shown (little_bytes 4 0)
      ∙ ap (option_map (by_place state.row.value_size state.block)) here in
      absurd (cc)
  has_value (e ∷ content) shown array one = omega arith

  only_begins : (content : Content) → RepresentsMap a m content state → state.row.kind ≡ Array
      → state.row.entries ≡ 1 → a.value_start m (one_serial content) ≡ 0
  only_begins content shown array one =
      let some = has_value content shown array one in
      let inside = in_block a m content state shown 0 some in
      let first : (keyed_at a m content state shown 0).1 ≡ 0 = omega arith in
      value_starts a m content state shown 0 some ∙ ap (λ n. n * state.row.value_size) first
      ∙ zero-mul state.row.value_size

module _ (p : Program) (a : Layout) (s : State) (w : Words) (R : Related p a s w)
    (K : IsState p s) where
  -- the word of a pointer into a map's only value
  pub only_value : (m offset : ℕ) → IsSomeAnd (slice_get p.maps m) (HoldsOffset offset)
      → Represents a (value_pointer s m offset) (values_base m + offset) × (m < max_maps)
  only_value m offset named = at (slice_get p.maps m) refl named
    where
      at : (o : Option MapDef) → slice_get p.maps m ≡ o → IsSomeAnd o (HoldsOffset offset)
          → Represents a (value_pointer s m offset) (values_base m + offset) × (m < max_maps)
      at None e h = absurd h
      at (Some row) e h =
          let inside = slice_get_within p.maps m row e in
          let few = R.layout.few in
          let both : Some row ≡ Some (map_at w.maps m).row = sym e ∙ row_of p a s w R K m inside in
          let same : row ≡ (map_at w.maps m).row = cc in
          let begins = only_begins a m (map_at w.maps m) (content_of s m) (R.maps.maps m inside)
          (ap (λ (r : MapDef). r.kind) (sym same) ∙ h.array)
          (ap (λ (r : MapDef). r.entries) (sym same) ∙ h.one) in
          (omega arith, omega arith)
