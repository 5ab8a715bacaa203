-- Packet pointers with numbers added or subtracted: what the machine computes is allowed by the
-- kind that the step computes.
use Rattle.transfer.proofs.Common.{◌≡◌, ℕ, ◌<◌, ◌≤◌, ℤ, pos, ◌+ℤ◌, ◌-ℤ◌, ◌≤ℤ◌, unsigned_abs, Bool, true, false, Ok, inl, inr, sym, ap, subst, arith, nat_tests, ints, Value, Num, Ptr, Full64, Add, Sub, Program, signed, offset_limit, moved_to, combined, Scalar, Kind, Packet, Has, Assigned, Allows, AllowsPacket, IsNumber-only, State, MeansBy, MeansBy-fresh, moved_by, lowest, highest, AreOffsets, StaysProved, IsFreshPointer, least_part, greatest_part, IsMovedVariable, IsMovedBetween, IsMovedFixed, IsMovedBy, PacketMoves}
use Rattle.isa_model.specs.declared.values.Region.TheVariants as region
use Rattle.isa_model.specs.Machine.States as Machine
use Rattle.reg_state.proofs.KindLaws.{with_offset}
use Rattle.transfer.proofs.ResultLaws.{YieldsUnder, pointer_at_within}
use Rattle.transfer.specs.declared.packets.PacketPointer.{PacketPointer}

-- ---- moves of packet pointers

-- between its limits the variable part is moved to between the new ones
moved_between : (back : Bool) (p : PacketPointer) (off near far by : ℤ) → p.least ≤ℤ off
    → off ≤ℤ p.greatest → near ≤ℤ by → by ≤ℤ far
    → (lowest back p near far ≤ℤ moved_by back (p.fixed +ℤ off) by)
    × (moved_by back (p.fixed +ℤ off) by ≤ℤ highest back p near far)
moved_between true p off near far by from to low high = (omega (arith, ints), omega (arith, ints))
moved_between false p off near far by from to low high = (omega (arith, ints), omega (arith, ints))

-- what is between two offsets of pointers is one
pub offset_between : (from to z : ℤ) → AreOffsets from to → from ≤ℤ z → z ≤ℤ to
    → unsigned_abs z ≤ offset_limit
offset_between from to z h low high = let a = h.from_is in let b = h.to_is in omega (arith, ints)

-- the fixed part moves, the variable one stays
fixed_moved : (back : Bool) (fixed off by : ℤ)
    → moved_by back (fixed +ℤ off) by ≡ moved_by back fixed by +ℤ off
fixed_moved true fixed off by = omega (arith, ints)
fixed_moved false fixed off by = omega (arith, ints)

-- a fresh identity is assigned the variable part
offset_same : (e : Assigned) (i : ℕ) (z : ℤ) → (with_offset e i z).offset i ≡ z
offset_same e i z = grind (arith, nat_tests)

-- the proved bytes after it are in the packet
abbrev AreInside : Assigned → ℤ → ℕ → Type 0
AreInside e part proved = 0 < proved → (part +ℤ pos proved) ≤ℤ pos e.packet_length

fresh_allows : (e : Assigned) (i proved : ℕ) (fixed least greatest part : ℤ) → least ≤ℤ part
    → part ≤ℤ greatest → AreInside e part proved
    → Allows (with_offset e i part) (Packet fixed i least greatest proved)
    (Ptr region.Packet (fixed +ℤ part))
fresh_allows e i proved fixed least greatest part low high inside =
    let same : (with_offset e i part).offset i ≡ part = offset_same e i part in
    record {
      points = ap (λ y. Ptr region.Packet (fixed +ℤ y)) (sym same);
      from = subst (λ y. least ≤ℤ y) (sym same) low;
      to = subst (λ y. y ≤ℤ greatest) (sym same) high;
      inside = subst (λ y. AreInside e y proved) (sym same) inside;
    }

apart : (fixed z : ℤ) → z ≡ fixed +ℤ (z -ℤ fixed)
apart fixed z = omega (arith, ints)

fresh_yields : (p : Program) (e : Assigned) (a : State) (s : Machine.State)
    (fixed least greatest z : ℤ) (proved : ℕ) (k : Kind)
    → IsFreshPointer a fixed least greatest proved k → unsigned_abs z ≤ offset_limit
    → least ≤ℤ (z -ℤ fixed) → (z -ℤ fixed) ≤ℤ greatest → AreInside e (z -ℤ fixed) proved
    → MeansBy p e a s → YieldsUnder p a s k (moved_to region.Packet z)
fresh_yields p e a s fixed least greatest z proved k h within low high inside m =
    let i : ℕ = h.identity in
    let some = h.fresh.some in
    let there = pointer_at_within region.Packet z within in
    let part : ℤ = z -ℤ fixed in (
      with_offset e i part,
      MeansBy-fresh p e a s i part (omega arith) h.fresh.fresh m,
      rw (there, h.pointer)
          (subst (λ y.
          Allows (with_offset e i part) (Packet fixed i least greatest proved)
          (Ptr region.Packet y)) (sym (apart fixed z))
          (fresh_allows e i proved fixed least greatest part low high inside)),
    )

fixed_yields : (p : Program) (e : Assigned) (a : State) (s : Machine.State) (back : Bool)
    (q : PacketPointer) (by : ℤ) (k : Kind) (v : Value)
    → IsMovedFixed back q by k → AllowsPacket e q.fixed q.identity q.least q.greatest q.proved v
    → unsigned_abs (moved_by back (q.fixed +ℤ e.offset q.identity) by) ≤ offset_limit
    → MeansBy p e a s → YieldsUnder p a s k
    (moved_to region.Packet (moved_by back (q.fixed +ℤ e.offset q.identity) by))
fixed_yields p e a s back q by k v h allowed within m =
    let there = pointer_at_within region.Packet
    (moved_by back (q.fixed +ℤ e.offset q.identity) by) within in (
      e,
      m,
      rw (there, h.pointer)
          record {
            points = ap (Ptr region.Packet) (fixed_moved back q.fixed (e.offset q.identity) by);
            from = allowed.from;
            to = allowed.to;
            inside = allowed.inside;
          },
    )

-- nothing is proved of the whole offset
whole_yields : (p : Program) (e : Assigned) (a : State) (s : Machine.State) (from to z : ℤ)
    (k : Kind) → IsFreshPointer a (pos 0) from to 0 k
    → AreOffsets from to → from ≤ℤ z → z ≤ℤ to → MeansBy p e a s
    → YieldsUnder p a s k (moved_to region.Packet z)
whole_yields p e a s from to z k h within low high m =
    fresh_yields p e a s (pos 0) from to z 0 k h (offset_between from to z within low high)
    (omega (arith, ints)) (omega (arith, ints)) (λ some. absurd (omega arith)) m

-- the variable part grows by no more than its greatest
grows_within : (back : Bool) (q : PacketPointer) (off near far by : ℤ) → near ≤ℤ by → by ≤ℤ far
    → (moved_by back (q.fixed +ℤ off) by -ℤ q.fixed) ≤ℤ
    (off +ℤ (greatest_part back q near far -ℤ q.greatest))
grows_within true q off near far by low high = omega (arith, ints)
grows_within false q off near far by low high = omega (arith, ints)

-- so the last byte that stays proved is no further than the last proved one was
still_inside : (e : Assigned) (off part growth : ℤ) (proved left : ℕ)
    → StaysProved proved growth left → part ≤ℤ (off +ℤ growth)
    → AreInside e off proved → AreInside e part left
still_inside e off part growth proved left stays within inside some =
    let rest = stays.some some in
    let there : (off +ℤ pos proved) ≤ℤ pos e.packet_length = inside rest.0 in
    let is = rest.1 in
    omega (arith, ints)

variable_yields : (p : Program) (e : Assigned) (a : State) (s : Machine.State) (back : Bool)
    (q : PacketPointer) (near far by : ℤ) (k : Kind)
    (v : Value) → AreOffsets (lowest back q near far) (highest back q near far)
    → IsMovedVariable a back q near far k
    → near ≤ℤ by → by ≤ℤ far → AllowsPacket e q.fixed q.identity q.least q.greatest q.proved v
    → MeansBy p e a s → YieldsUnder p a s k
    (moved_to region.Packet (moved_by back (q.fixed +ℤ e.offset q.identity) by))
variable_yields p e a s back q near far by k v within h low high allowed m =
    let off : ℤ = e.offset q.identity in
    let z : ℤ = moved_by back (q.fixed +ℤ off) by in
    let (from, to) = moved_between back q off near far by allowed.from allowed.to low high in
    fresh_yields p e a s q.fixed (least_part back q near far)
    (greatest_part back q near far) z h.proved k h.pointer
    (offset_between (lowest back q near far) (highest back q near far) z within from to)
    (omega (arith, ints)) (omega (arith, ints))
    (still_inside e off (z -ℤ q.fixed)
    (greatest_part back q near far -ℤ q.greatest) q.proved h.proved h.stays
    (grows_within back q off near far by low high) allowed.inside) m

between_yields : (p : Program) (e : Assigned) (a : State) (s : Machine.State) (back : Bool)
    (q : PacketPointer) (near far by : ℤ) (k : Kind)
    (v : Value) → IsMovedBetween a back q near far k → near ≤ℤ by → by ≤ℤ far
    → AllowsPacket e q.fixed q.identity q.least q.greatest q.proved v → MeansBy p e a s
    → YieldsUnder p a s k
    (moved_to region.Packet (moved_by back (q.fixed +ℤ e.offset q.identity) by))
between_yields p e a s back q near far by k v h low high allowed m =
    let (from, to) =
    moved_between back q (e.offset q.identity) near far by allowed.from allowed.to low high in
    elim h.pointer [
      | inl variable ↦
          variable_yields p e a s back q near far by k v h.within variable low high allowed m
      | inr (none, fresh) ↦ whole_yields p e a s (lowest back q near far) (highest back q near far)
          (moved_by back (q.fixed +ℤ e.offset q.identity) by) k fresh h.within from to m
    ]

by_one_yields : (p : Program) (e : Assigned) (a : State) (s : Machine.State) (back : Bool)
    (q : PacketPointer) (by : ℤ) (k : Kind) (v : Value)
    → IsMovedBy a back q by k → AllowsPacket e q.fixed q.identity q.least q.greatest q.proved v
    → MeansBy p e a s → YieldsUnder p a s k
    (moved_to region.Packet (moved_by back (q.fixed +ℤ e.offset q.identity) by))
by_one_yields p e a s back q by k v h allowed m =
    let here : by ≤ℤ by = omega (arith, ints) in
    let (from, to) =
    moved_between back q (e.offset q.identity) by by by allowed.from allowed.to here here in
    elim h.pointer [
      | inl kept ↦ fixed_yields p e a s back q by k v kept allowed
          (offset_between (lowest back q by by) (highest back q by by)
          (moved_by back (q.fixed +ℤ e.offset q.identity) by) h.within from to) m
      | inr (none, fresh) ↦ whole_yields p e a s (lowest back q by by) (highest back q by by)
          (moved_by back (q.fixed +ℤ e.offset q.identity) by) k fresh h.within from to m
    ]

-- the pointer that a member of the number moves
moved_yields : (p : Program) (e : Assigned) (a : State) (s : Machine.State) (back : Bool)
    (q : PacketPointer) (by : Scalar) (k : Kind) (x : ℕ)
    (v : Value) → PacketMoves a back q by (Ok k) → Has by x
    → AllowsPacket e q.fixed q.identity q.least q.greatest q.proved v → MeansBy p e a s
    → YieldsUnder p a s k
    (moved_to region.Packet (moved_by back (q.fixed +ℤ e.offset q.identity) (signed Full64 x)))
moved_yields p e a s back q by k x v (inl h) has allowed m =
    subst (λ n. YieldsUnder p a s k
    (moved_to region.Packet
    (moved_by back (q.fixed +ℤ e.offset q.identity) (signed Full64 n))))
    (sym (IsNumber-only by h.number x h.alone has))
    (by_one_yields p e a s back q (signed Full64 h.number) k v h.moves allowed m)
moved_yields p e a s back q by k x v (inr h) has allowed m =
    between_yields p e a s back q by.range.wide.signed_least by.range.wide.signed_greatest
    (signed Full64 x) k v h.moves
    has.1.0.signed_from has.1.0.signed_to allowed m

-- packet pointer and number
pub packet_plus_yields : (p : Program) (e : Assigned) (a : State) (s : Machine.State)
    (q : PacketPointer) (by : Scalar) (k : Kind) (x : ℕ)
    (v : Value) → PacketMoves a false q by (Ok k) → Has by x
    → Allows e (Packet q.fixed q.identity q.least q.greatest q.proved) v
    → MeansBy p e a s → YieldsUnder p a s k (combined Add Full64 v (Num x))
packet_plus_yields p e a s q by k x v h has allowed m =
    rw allowed.points (moved_yields p e a s false q by k x v h has allowed m)

pub packet_minus_yields : (p : Program) (e : Assigned) (a : State) (s : Machine.State)
    (q : PacketPointer) (by : Scalar) (k : Kind) (x : ℕ)
    (v : Value) → PacketMoves a true q by (Ok k) → Has by x
    → Allows e (Packet q.fixed q.identity q.least q.greatest q.proved) v
    → MeansBy p e a s → YieldsUnder p a s k (combined Sub Full64 v (Num x))
packet_minus_yields p e a s q by k x v h has allowed m =
    rw allowed.points (moved_yields p e a s true q by k x v h has allowed m)

-- number and packet pointer
pub number_plus_packet_yields : (p : Program) (e : Assigned) (a : State) (s : Machine.State)
    (q : PacketPointer) (by : Scalar) (k : Kind) (x : ℕ)
    (v : Value) → PacketMoves a false q by (Ok k) → Has by x
    → Allows e (Packet q.fixed q.identity q.least q.greatest q.proved) v
    → MeansBy p e a s → YieldsUnder p a s k (combined Add Full64 (Num x) v)
number_plus_packet_yields p e a s q by k x v h has allowed m =
    rw allowed.points (moved_yields p e a s false q by k x v h has allowed m)
