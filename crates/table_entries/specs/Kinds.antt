-- The kinds of registers and stack slots, as the bytes of a table have them;
-- the lowest byte of a number comes first.
use Rattle.std.specs.Prelude.{◌≡◌, ℕ, ◌^◌, ◌<◌, ◌≤◌, nat_lt, ℤ, ◌≤ℤ◌, ◌⊎◌, ◌==◌, ◌&&◌, Bool, not, if◌then◌else◌, List, [], ◌∷◌, drop, Option, Some, None, Ok, Err, bit_and}
use Rattle.std.specs.Option.{option_map}
use Rattle.std.specs.Int.{w32, w64, cast_signed}
use Rattle.std.proofs.Common.{inl, inr}
use Rattle.std.proofs.lemmas.Bool.{cases_eq}
use Rattle.byteorder.specs.Endian.{little_number}
use Rattle.known_bits.specs.declared.bits.Bits.{Bits}
use Rattle.ranges.specs.declared.wide.Wide.{Wide}
use Rattle.ranges.specs.declared.low.Low.{Low}
use Rattle.ranges.specs.declared.range.Range.{Range}
use Rattle.reg_state.specs.declared.scalars.Scalar.{Scalar}
use Rattle.reg_state.specs.declared.kinds.Kind.{Kind}
use Rattle.reg_state.specs.declared.kinds.Kind.TheVariants.{Unset, Number, Context, Stack, Packet, PacketEnd, Map, MapValue, MapValueOrNull}
use Rattle.stack_state.specs.declared.slots.StackSlot.{StackSlot}
use Rattle.stack_state.specs.declared.slots.StackSlot.TheVariants.{Written, Spilled}
use Rattle.table_entries.specs.declared.stops.StopReason.TheVariants.{Short, Meaningless}
use Rattle.table_entries.specs.Deciding.{decide, decide_less, decide_z}
use Rattle.table_entries.specs.Reading.{Read, sized, then_read}

-- ---- numbers

-- the signed numbers that bytes begin with
abbrev pub signed_32 : List ℕ → ℤ
signed_32 bytes = cast_signed w32 (little_number 4 bytes)

abbrev pub signed_64 : List ℕ → ℤ
signed_64 bytes = cast_signed w64 (little_number 8 bytes)

-- the bits, unless the value has one of the mask; masks have 64 bits
abbrev pub bits_when : (v m : ℕ) → (bit_and v m ≡ 0) ⊎ (bit_and v m ≡ 0 → ⊥)
    → (m < 2 ^ 64) ⊎ (m < 2 ^ 64 → ⊥) → Option Bits
bits_when v m (inl apart) (inl fits) =
    Some (record { value = v; mask = m; apart = apart; fits = fits })
bits_when v m a b = None

unfoldable pub bits_of : ℕ → ℕ → Option Bits
bits_of v m = bits_when v m (cases_eq (bit_and v m) 0) (decide_less m (2 ^ 64))

-- what is made of two pairs of limits in order; None where a least one is above its greatest
abbrev pub ordered_when : {X : Type 0} (l g : ℕ) (s t : ℤ) → (l ≤ g → s ≤ℤ t → X)
    → (l ≤ g) ⊎ (l ≤ g → ⊥) → (s ≤ℤ t) ⊎ (s ≤ℤ t → ⊥) → Option X
ordered_when l g s t make (inl o) (inl p) = Some (make o p)
ordered_when l g s t make a b = None

abbrev pub wide_with : (l g : ℕ) (s t : ℤ) → l ≤ g → s ≤ℤ t → Wide
wide_with l g s t o p =
    record {
      least = l;
      greatest = g;
      signed_least = s;
      signed_greatest = t;
      ordered = o;
      signed_ordered = p;
    }

unfoldable pub wide_of : ℕ → ℕ → ℤ → ℤ → Option Wide
wide_of l g s t = ordered_when l g s t (wide_with l g s t) (decide l g) (decide_z s t)

abbrev pub low_with : (l g : ℕ) (s t : ℤ) → l ≤ g → s ≤ℤ t → Low
low_with l g s t o p =
    record {
      least = l;
      greatest = g;
      signed_least = s;
      signed_greatest = t;
      ordered = o;
      signed_ordered = p;
    }

unfoldable pub low_of : ℕ → ℕ → ℤ → ℤ → Option Low
low_of l g s t = ordered_when l g s t (low_with l g s t) (decide l g) (decide_z s t)

abbrev pub range_of : Option Wide → Option Low → Option Range
range_of (Some w) (Some l) = Some (record { wide = w; low = l })
range_of w l = None

abbrev pub scalar_of : Option Bits → Option Range → Option Scalar
scalar_of (Some b) (Some r) = Some (record { bits = b; range = r })
scalar_of b r = None

-- value and mask: 16 bytes
abbrev pub bits_in : List ℕ → Option Bits
bits_in bytes = bits_of (little_number 8 bytes) (little_number 8 (drop 8 bytes))

-- the limits at 64 bits: 32 bytes
abbrev pub wide_in : List ℕ → Option Wide
wide_in bytes =
    wide_of (little_number 8 bytes) (little_number 8 (drop 8 bytes)) (signed_64 (drop 16 bytes))
    (signed_64 (drop 24 bytes))

-- those of the low halves: 16 bytes
abbrev pub low_in : List ℕ → Option Low
low_in bytes =
    low_of (little_number 4 bytes) (little_number 4 (drop 4 bytes)) (signed_32 (drop 8 bytes))
    (signed_32 (drop 12 bytes))

-- all of them: 64 bytes
unfoldable pub scalar_in : List ℕ → Option Scalar
scalar_in bytes =
    scalar_of (bits_in bytes) (range_of (wide_in (drop 16 bytes)) (low_in (drop 48 bytes)))

-- ---- pointers; there are `rows` map rows, and `holder` is the call frame that holds them

-- limits in order
abbrev pub limits_when : (l g : ℤ) → (l ≤ℤ g) ⊎ (l ≤ℤ g → ⊥) → Option (ℤ × ℤ)
limits_when l g (inl in_order) = Some (l, g)
limits_when l g (inr refuted) = None

unfoldable pub limits_of : ℤ → ℤ → Option (ℤ × ℤ)
limits_of l g = limits_when l g (decide_z l g)

-- two signed numbers, the least and the greatest
abbrev pub limits_in : List ℕ → Option (ℤ × ℤ)
limits_in bytes = limits_of (signed_32 bytes) (signed_32 (drop 4 bytes))

-- without an identity there is no variable part: both of its limits are 0
abbrev pub has_no_part : List ℕ → Bool
has_no_part bytes = little_number 4 bytes == 0 && little_number 4 (drop 4 bytes) == 0

abbrev pub lacks_identity : List ℕ → Bool
lacks_identity bytes = little_number 4 (drop 4 bytes) == 0 && not (has_no_part (drop 8 bytes))

abbrev pub packet_of : ℤ → ℕ → Option (ℤ × ℤ) → ℕ → Option Kind
packet_of fixed identity None proved = None
packet_of fixed identity (Some limits) proved =
    Some (Packet fixed identity limits.0 limits.1 proved)

-- fixed part, identity, limits of the variable part, and how many bytes are proved: 20 bytes
unfoldable pub packet_in : List ℕ → Option Kind
packet_in bytes =
    if lacks_identity bytes then None
    else packet_of (signed_32 bytes) (little_number 4 (drop 4 bytes)) (limits_in (drop 8 bytes))
    (little_number 4 (drop 16 bytes))

-- the index of a call frame up to the one that holds the pointer, and an offset: 5 bytes
unfoldable pub stack_in : ℕ → List ℕ → Option Kind
stack_in holder bytes =
    if nat_lt holder (little_number 1 bytes) then None
    else Some (Stack (little_number 1 bytes) (signed_32 (drop 1 bytes)))

-- a map that has a row: 1 byte
unfoldable pub map_in : ℕ → List ℕ → Option Kind
map_in rows bytes =
    if nat_lt (little_number 1 bytes) rows then Some (Map (little_number 1 bytes)) else None

abbrev pub value_of : ℕ → Option (ℤ × ℤ) → Option Kind
value_of m None = None
value_of m (Some limits) = Some (MapValue m limits.0 limits.1)

-- a map that has a row, and the limits of the offset: 9 bytes
unfoldable pub value_in : ℕ → List ℕ → Option Kind
value_in rows bytes = if nat_lt (little_number 1 bytes) rows
    then value_of (little_number 1 bytes) (limits_in (drop 1 bytes)) else None

-- a map that has a row, and an identity: 5 bytes
unfoldable pub null_in : ℕ → List ℕ → Option Kind
null_in rows bytes =
    if nat_lt (little_number 1 bytes) rows
    then Some (MapValueOrNull (little_number 1 bytes) (little_number 4 (drop 1 bytes)))
    else None

-- ---- kinds

-- the kind that a byte says, with the fields that the bytes begin with
unfoldable pub fields_in : ℕ → ℕ → ℕ → List ℕ → Read Kind
fields_in rows holder kind bytes =
    if kind == 0 then Ok (Some Unset, bytes)
    else if kind == 1 then sized 64 (λ b. option_map Number (scalar_in b)) bytes
    else if kind == 2 then Ok (Some Context, bytes)
    else if kind == 3 then sized 5 (stack_in holder) bytes
    else if kind == 4 then sized 20 packet_in bytes
    else if kind == 5 then Ok (Some PacketEnd, bytes)
    else if kind == 6 then sized 1 (map_in rows) bytes
    else if kind == 7 then sized 9 (value_in rows) bytes
    else if kind == 8 then sized 5 (null_in rows) bytes
    else Err Meaningless

-- a kind: the byte that says which one it is, and its fields
unfoldable pub kind_in : ℕ → ℕ → List ℕ → Read Kind
kind_in rows holder [] = Err Short
kind_in rows holder (kind ∷ bytes) = fields_in rows holder kind bytes

-- a stack slot with a spilled value, of which something is known: its kind is not unset
abbrev pub spilled : Option Kind → Option StackSlot
spilled None = None
spilled (Some Unset) = None
spilled (Some k) = Some (Spilled k)

abbrev pub spilled_in : Read Kind → Read StackSlot
spilled_in kind = then_read kind (λ k rest. Ok (spilled k, rest))

-- the marks of written bytes: 1 byte
abbrev pub marks_in : List ℕ → Read StackSlot
marks_in [] = Err Short
marks_in (marks ∷ bytes) = Ok (Some (Written marks), bytes)

-- a stack slot: 0 and marks, or 1 and a kind
unfoldable pub stack_slot_in : ℕ → ℕ → List ℕ → Read StackSlot
stack_slot_in rows holder [] = Err Short
stack_slot_in rows holder (tag ∷ bytes) =
    if tag == 0 then marks_in bytes
    else if tag == 1 then spilled_in (kind_in rows holder bytes)
    else Err Meaningless
