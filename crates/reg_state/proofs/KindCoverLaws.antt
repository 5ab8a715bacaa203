-- Laws of the definitions in specs/KindCover. `packet` and `null` rename identities as there.
use Rattle.reg_state.proofs.Common.{ℕ, ℤ, arith, ints, Kind, Unset, Number, Context, Stack, Packet, PacketEnd, Map, MapValue, MapValueOrNull, KindCovers}
use Rattle.isa_model.specs.declared.values.Value.{Value}
use Rattle.reg_state.specs.Kinds.{Assigned, Allows, AllowsPacket, AllowsMapValue}

-- the assignment in which each identity is read as the one that the renamings call it
abbrev pub renamed : (ℕ → ℕ) → (ℕ → ℕ) → Assigned → Assigned
renamed packet null e =
    record e { offset = λ i. e.offset (packet i); map_value = λ i. e.map_value (null i) }

packet_allows : (packet null : ℕ → ℕ) (e : Assigned) (f f' l l' g g' : ℤ) (i i' p p' : ℕ)
    (v : Value)
    → KindCovers packet null (Packet f i l g p) (Packet f' i' l' g' p')
    → AllowsPacket e f' i' l' g' p' v → AllowsPacket (renamed packet null e) f i l g p v
packet_allows packet null e f f' l l' g g' i i' p p' v c h =
    let least = c.2 in
    let greatest = c.3 in
    let proved = c.4 in
    record {
      points = rw (c.0, c.1) h.points;
      from = rw c.1 (omega (arith, ints, h.from));
      to = rw c.1 (omega (arith, ints, h.to));
      inside = rw c.1 (λ some. omega (arith, ints, h.inside (omega arith)));
    }

map_value_allows : (packet null : ℕ → ℕ) (e : Assigned) (m m' : ℕ) (l l' g g' : ℤ) (v : Value)
    → KindCovers packet null (MapValue m l g) (MapValue m' l' g') → AllowsMapValue e m' l' g' v
    → AllowsMapValue (renamed packet null e) m l g v
map_value_allows packet null e m m' l l' g g' v c h =
    let least = c.1 in
    let greatest = c.2 in
    record {
      serial = h.serial;
      offset = h.offset;
      points = rw c.0 h.points;
      from = omega (arith, ints, h.from);
      to = omega (arith, ints, h.to);
      live = rw c.0 h.live;
    }

-- a kind allows what a kind that it covers allows
pub Allows-covered : (packet null : ℕ → ℕ) (e : Assigned) (a b : Kind) (v : Value)
    → KindCovers packet null a b → Allows e b v → Allows (renamed packet null e) a v
Allows-covered packet null e Unset b v c h = tt
Allows-covered packet null e (Number a) (Number b) v c h = (h.0, h.1, c h.0 h.2)
Allows-covered packet null e Context Context v c h = h
Allows-covered packet null e (Stack f o) (Stack f' o') v c h = (h.0, rw c.0 h.1, rw c.1 h.2)
Allows-covered packet null e (Packet f i l g p) (Packet f' i' l' g' p') v c h =
    packet_allows packet null e f f' l l' g g' i i' p p' v c h
Allows-covered packet null e PacketEnd PacketEnd v c h = h
Allows-covered packet null e (Map m) (Map m') v c h = rw c h
Allows-covered packet null e (MapValue m l g) (MapValue m' l' g') v c h =
    map_value_allows packet null e m m' l l' g g' v c h
Allows-covered packet null e (MapValueOrNull m i) (MapValueOrNull m' i') v c h = rw (c.0, c.1) h
Allows-covered packet null e a b v c h = absurd c
