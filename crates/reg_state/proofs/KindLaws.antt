-- Laws of kinds: which parts of an assignment they depend on, and which values they never allow.
use Rattle.reg_state.proofs.Common.{◌≡◌, ◌≢◌, ℕ, ℤ, Option, Some, None, IfSome, if◌then◌else◌, nat_eq, slice_get, refl, sym, ◌∙◌, arith, Kind, Unset, Number, Context, Stack, Packet, PacketEnd, Map, MapValue, MapValueOrNull, packet_identity_of, null_identity_of}
use Rattle.std.proofs.lemmas.Bool.Decides.{nat_tests}
use Rattle.isa_model.specs.declared.values.Value.{Value}
use Rattle.isa_model.specs.declared.values.Value.TheVariants as value
use Rattle.reg_state.specs.Kinds.{Assigned, Allows, AllowsOrNull, HasLiveValue}
use Rattle.reg_state.proofs.Numbers.{if_some}

-- the call frame into which a kind points
abbrev pub frame_of : Kind → Option ℕ
frame_of (Stack frame offset) = Some frame
frame_of k = None

-- the map to whose map values a kind refers
abbrev pub map_of : Kind → Option ℕ
map_of (MapValue m least greatest) = Some m
map_of (MapValueOrNull m identity) = Some m
map_of k = None

-- f keeps what a kind refers to in e: its identity and its frame are the same, and live values of
-- its map are live
pub record KeepsAssigned (k : Kind) (e f : Assigned) : Type 0 where
  pub offsets : IfSome (packet_identity_of k) (λ i. e.offset i ≡ f.offset i)
  pub map_values : IfSome (null_identity_of k) (λ i. e.map_value i ≡ f.map_value i)
  pub packet_lengths : e.packet_length ≡ f.packet_length
  pub serials : IfSome (frame_of k) (λ j. slice_get e.frames j ≡ slice_get f.frames j)
  pub live : IfSome (map_of k) (λ m. (n : ℕ) → HasLiveValue e.maps m n → HasLiveValue f.maps m n)

null_kept : (e f : Assigned) (m : ℕ) (o : Option ℕ) (v : Value)
    → ((n : ℕ) → HasLiveValue e.maps m n → HasLiveValue f.maps m n)
    → AllowsOrNull e m o v → AllowsOrNull f m o v
null_kept e f m None v live h = h
null_kept e f m (Some n) v live h = (h.0, live n h.1)

-- the kind then still allows what it allowed
pub Allows-kept : (k : Kind) (e f : Assigned) (v : Value) → KeepsAssigned k e f → Allows e k v
    → Allows f k v
Allows-kept Unset e f v a h = tt
Allows-kept (Number s) e f v a h = h
Allows-kept Context e f v a h = h
Allows-kept (Stack n o) e f v a h = (h.0, sym a.serials ∙ h.1, h.2)
Allows-kept (Packet x i l g p) e f v a h =
    record {
      points = rw a.offsets at h.points;
      from = rw a.offsets at h.from;
      to = rw a.offsets at h.to;
      inside = rw (a.offsets, a.packet_lengths) at h.inside;
    }
Allows-kept PacketEnd e f v a h = h
Allows-kept (Map m) e f v a h = h
Allows-kept (MapValue m l g) e f v a h =
    record {
      serial = h.serial;
      offset = h.offset;
      points = h.points;
      from = h.from;
      to = h.to;
      live = a.live h.serial h.live;
    }
Allows-kept (MapValueOrNull m i) e f v a h =
    rw (← a.map_values) (null_kept e f m (e.map_value i) v a.live h)

-- the assignment with another number for a packet identity
abbrev pub with_offset : Assigned → ℕ → ℤ → Assigned
with_offset e i z = record e { offset = λ j. if nat_eq i j then z else e.offset j }

-- the assignment with another serial, or null, for a null identity
abbrev pub with_map_value : Assigned → ℕ → Option ℕ → Assigned
with_map_value e i n = record e { map_value = λ j. if nat_eq i j then n else e.map_value j }

other_offset : (e : Assigned) (i : ℕ) (z : ℤ) (j : ℕ) → j ≢ i
    → e.offset j ≡ (with_offset e i z).offset j
other_offset e i z j other = grind (arith, nat_tests)

other_map_value : (e : Assigned) (i : ℕ) (n : Option ℕ) (j : ℕ) → j ≢ i
    → e.map_value j ≡ (with_map_value e i n).map_value j
other_map_value e i n j other = grind (arith, nat_tests)

-- a packet identity that the kind does not name may be assigned anew
pub Allows-fresh_offset : (k : Kind) (e : Assigned) (i : ℕ) (z : ℤ) (v : Value)
    → packet_identity_of k ≢ Some i → Allows e k v → Allows (with_offset e i z) k v
Allows-fresh_offset k e i z v fresh h =
    Allows-kept k e (with_offset e i z) v
    record {
      offsets = if_some (packet_identity_of k) (λ j. e.offset j ≡ (with_offset e i z).offset j)
          (λ j is. other_offset e i z j (λ same. fresh (cc)));
      map_values = if_some (null_identity_of k) (λ j. e.map_value j ≡ e.map_value j) (λ j is. refl);
      packet_lengths = refl;
      serials =
          if_some (frame_of k) (λ j. slice_get e.frames j ≡ slice_get e.frames j) (λ j is. refl);
      live =
          if_some (map_of k) (λ m. (n : ℕ) → HasLiveValue e.maps m n → HasLiveValue e.maps m n)
          (λ m is n l. l);
    }
    h

-- and so may a null identity
pub Allows-fresh_map_value : (k : Kind) (e : Assigned) (i : ℕ) (n : Option ℕ) (v : Value)
    → null_identity_of k ≢ Some i → Allows e k v → Allows (with_map_value e i n) k v
Allows-fresh_map_value k e i n v fresh h =
    Allows-kept k e (with_map_value e i n) v
    record {
      offsets = if_some (packet_identity_of k) (λ j. e.offset j ≡ e.offset j) (λ j is. refl);
      map_values =
          if_some (null_identity_of k) (λ j. e.map_value j ≡ (with_map_value e i n).map_value j)
          (λ j is. other_map_value e i n j (λ same. fresh (cc)));
      packet_lengths = refl;
      serials =
          if_some (frame_of k) (λ j. slice_get e.frames j ≡ slice_get e.frames j) (λ j is. refl);
      live =
          if_some (map_of k) (λ m. (n : ℕ) → HasLiveValue e.maps m n → HasLiveValue e.maps m n)
          (λ m is n l. l);
    }
    h
