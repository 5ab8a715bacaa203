-- Pointers to map values, moved and from wide loads: the kind that the step computes allows them,
-- and what wide loads of maps name fits the fields of kinds.
use Rattle.transfer.proofs.Common.{◌≡◌, ℕ, ◌<◌, ℤ, pos, ◌+ℤ◌, ◌-ℤ◌, ◌≤ℤ◌, if◌then◌else◌, Bool, true, false, List, [], ◌∷◌, length, slice_get, Contains, All, Option, Some, None, IsSomeAnd, Ok, sym, subst, arith, refl, ints, length-map, max_value_size, Full64, Value, MapDef, Insn, LoadMap, LoadMapValue, Program, fetch, IsRow, HoldsOffset, NamesRows, signed, Content, key_values_of, content_of, moved_to, one_serial, value_pointer, keys_of, value_serials, IsState, content_fits, has_value, row_within, Scalar, Kind, MapValue, Has, Assigned, Allows, AllowsMapValue, HasLiveValue, IsNumber-only, State, MeansBy, moved_offset, LeavesNumber, NamesFit, nearest, farthest, moved_least, moved_greatest, ValueMoves}
use Rattle.std.proofs.lemmas.Option.{slice_get_within}
use Rattle.isa_model.specs.declared.values.Region.TheVariants as region
use Rattle.isa_model.specs.Machine.States as Machine
use Rattle.image.specs.Images.{IsImage}
use Rattle.image.proofs.ImageLaws.{NamesRows-fetch}
use Rattle.transfer.proofs.ResultLaws.{Yields, pointer_at_within}
use Rattle.transfer.proofs.PacketMoveLaws.{offset_between}

-- ---- moves

-- a member of the number moves by something between the distances
between : (by : Scalar) (o : Option ℕ) (x : ℕ) → LeavesNumber by o → Has by x
    → (nearest by o ≤ℤ signed Full64 x) × (signed Full64 x ≤ℤ farthest by o)
between by (Some n) x only has =
    let same = IsNumber-only by n x only has in
    rw same (omega (arith, ints), omega (arith, ints))
between by None x only has = (has.1.0.signed_from, has.1.0.signed_to)

-- so the offset is between the new limits
moved_between : (back : Bool) (least greatest z near far by : ℤ) → least ≤ℤ z → z ≤ℤ greatest
    → near ≤ℤ by → by ≤ℤ far
    → (moved_least back least near far ≤ℤ (if back then z -ℤ by else z +ℤ by))
    × ((if back then z -ℤ by else z +ℤ by) ≤ℤ moved_greatest back greatest near far)
moved_between true least greatest z near far by from to low high =
    (omega (arith, ints), omega (arith, ints))
moved_between false least greatest z near far by from to low high =
    (omega (arith, ints), omega (arith, ints))

offset_is : (back : Bool) (z : ℤ) (x : ℕ)
    → moved_offset back z x ≡ (if back then z -ℤ signed Full64 x else z +ℤ signed Full64 x)
offset_is true z x = refl
offset_is false z x = refl

pub value_moves_yields : (e : Assigned) (back : Bool) (m : ℕ) (least greatest : ℤ) (by : Scalar)
    (o : Option ℕ) (k : Kind) (x : ℕ) (v : Value)
    → LeavesNumber by o → ValueMoves back m least greatest (nearest by o) (farthest by o) (Ok k)
    → Has by x → (h : AllowsMapValue e m least greatest v)
    → Yields e k (moved_to (region.MapValue m h.serial) (moved_offset back h.offset x))
value_moves_yields e back m least greatest by o k x v only (is, within) has h =
    let (low, high) = between by o x only has in
    let z : ℤ = moved_offset back h.offset x in
    let ends = moved_between back least greatest h.offset (nearest by o) (farthest by o)
    (signed Full64 x) h.from h.to low high in
    let from : moved_least back least (nearest by o) (farthest by o) ≤ℤ z =
    rw (offset_is back h.offset x) ends.0 in
    let to : z ≤ℤ moved_greatest back greatest (nearest by o) (farthest by o) =
    rw (offset_is back h.offset x) ends.1 in
    let there = pointer_at_within (region.MapValue m h.serial) z
    (offset_between (moved_least back least (nearest by o) (farthest by o))
    (moved_greatest back greatest (nearest by o) (farthest by o)) z within from to) in
    rw (there, is)
    (record {
      serial = h.serial;
      offset = z;
      points = refl;
      from = from;
      to = to;
      live = h.live;
    })

-- ---- wide loads

first_live : (content : Content) → 0 < length content
    → Contains (value_serials content) (one_serial content)
first_live [] some = absurd (omega arith)
first_live (e ∷ content) some = (0, omega arith, refl)

one_live : (p : Program) (s : Machine.State) (m offset : ℕ) (o : Option MapDef)
    → slice_get p.maps m ≡ o → IsSomeAnd o (HoldsOffset offset) → IsState p s
    → HasLiveValue s.maps m (one_serial (content_of s m))
one_live p s m offset None here names is = absurd names
one_live p s m offset (Some row) here names is =
    let content : Content = content_of s m in
    let fits = content_fits p s m row here is in
    let some = has_value row.kind row.entries
    (keys_of (key_values_of content)) names.array names.one fits.keys in
    let long = length-map {B = List ℕ × List ℕ} content (λ e. (e.0, e.1.bytes)) in
    let keyed = length-map (key_values_of content) (λ e. e.0) in
    first_live content (omega arith)

-- the value of an array's one key is live
pub value_pointer_allowed : (p : Program) (e : Assigned) (a : State) (s : Machine.State)
    (m offset : ℕ) → MeansBy p e a s
    → IsSomeAnd (slice_get p.maps m) (HoldsOffset offset)
    → Allows e (MapValue m (pos offset) (pos offset)) (value_pointer s m offset)
value_pointer_allowed p e a s m offset means names = record {
  serial = one_serial (content_of s m);
  offset = pos offset;
  points = refl;
  from = omega (arith, ints);
  to = omega (arith, ints);
  live =
      subst (λ maps. HasLiveValue maps m (one_serial (content_of s m)))
      (sym means.assigned.contents)
      (one_live p s m offset (slice_get p.maps m) refl names means.is_state);
}

short_offset : (rows : List MapDef) (m offset : ℕ) (o : Option MapDef) → slice_get rows m ≡ o
    → All IsRow rows → IsSomeAnd o (HoldsOffset offset)
    → (m < length rows) × (offset < max_value_size)
short_offset rows m offset None here all names = absurd names
short_offset rows m offset (Some row) here all names =
    let within = slice_get_within rows m row here in
    let limits : IsRow row = row_within rows m row here all in
    let short = limits.short_value in
    let inside = names.within in
    (within, omega arith)

-- what an image's wide loads of maps name fits the fields of kinds
pub NamesFit-fetch : (p : Program) (slot : ℕ) (i : Insn) → IsImage p → fetch p slot ≡ Some i
    → NamesFit i
NamesFit-fetch p slot i image here = fits i (NamesRows-fetch p slot i image here)
  where
    fits : (i : Insn) → NamesRows p.maps i → NamesFit i
    fits (LoadMap d m) names = let few = image.few_maps in omega arith
    fits (LoadMapValue d m offset) names =
        let few = image.few_maps in
        let (within, short) =
        short_offset p.maps m offset (slice_get p.maps m) refl image.rows names in
        (omega arith, omega arith)
    fits i names = tt
