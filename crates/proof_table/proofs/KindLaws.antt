-- Kinds and stack slots are read from their spelling, whatever follows.
use Rattle.proof_table.proofs.Common.{◌≡◌, ℕ, ◌^◌, ◌<◌, ◌≤◌, nat_lt, ℤ, pos, ◌≤ℤ◌, FitsSigned, ◌==◌, ◌&&◌, not, Bool, true, false, if◌then◌else◌, List, [], ◌∷◌, ◌++◌, length, drop, Option, Some, None, Ok, ap, ◌∙◌, append_assoc, length-append, arith, le-ltb, drop_at, little_bytes, little_number, little_number-reads_back, StackSlot, Written, Spilled, sized, signed_4, signed_8, bits_bytes, wide_bytes, low_bytes, scalar_bytes, stack_bytes, packet_bytes, value_bytes, null_bytes, kind_bytes, stack_slot_bytes, WideFits, LowFits, ScalarFits, StackFits, PacketFits, MapFits, ValueFits, NullFits, KindFits, StackSlotFits}
use Rattle.std.specs.Prelude.{refl}
use Rattle.std.specs.Option.{option_map}
use Rattle.std.specs.Int.{w32, w64, cast_signed, cast_unsigned}
use Rattle.std.proofs.Math.Facts.{Fits-of_z, Fits-lt-pow}
use Rattle.std.proofs.lemmas.Int.{to_z-of_z}
use Rattle.known_bits.specs.declared.bits.Bits.{Bits}
use Rattle.ranges.specs.declared.wide.Wide.{Wide}
use Rattle.ranges.specs.declared.low.Low.{Low}
use Rattle.reg_state.specs.declared.scalars.Scalar.{Scalar}
use Rattle.reg_state.specs.declared.kinds.Kind.{Kind}
use Rattle.reg_state.specs.declared.kinds.Kind.TheVariants.{Unset, Number, Context, Stack, Packet, PacketEnd, Map, MapValue, MapValueOrNull}
use Rattle.table_entries.specs.Kinds.{signed_32, signed_64, bits_of, wide_of, low_of, range_of, scalar_of, bits_in, wide_in, low_in, scalar_in, limits_of, limits_in, has_no_part, lacks_identity, packet_of, packet_in, stack_in, map_in, value_of, value_in, null_in, fields_in, kind_in, spilled_in, stack_slot_in}
use Rattle.table_entries.proofs.KindLaws.{bits_of-is, wide_of-is, low_of-is, limits_of-some}

-- ---- numbers

signed_32-reads : (z : ℤ) (rest : List ℕ) → FitsSigned w32 z → signed_32 (signed_4 z ++ rest) ≡ z
signed_32-reads z rest h =
    ap (cast_signed w32)
    (little_number-reads_back 4 (cast_unsigned w32 z) rest (Fits-lt-pow (Fits-of_z h)))
    ∙ to_z-of_z w32 z h

signed_64-reads : (z : ℤ) (rest : List ℕ) → FitsSigned w64 z → signed_64 (signed_8 z ++ rest) ≡ z
signed_64-reads z rest h =
    ap (cast_signed w64)
    (little_number-reads_back 8 (cast_unsigned w64 z) rest (Fits-lt-pow (Fits-of_z h)))
    ∙ to_z-of_z w64 z h

pub byte-reads : (b : ℕ) (rest : List ℕ) → little_number 1 (b ∷ rest) ≡ b
byte-reads b rest = omega arith

bits_in-reads : (b : Bits) (rest : List ℕ) → b.value < 2 ^ 64
    → bits_in (bits_bytes b ++ rest) ≡ Some b
unfolding bits_bytes
bits_in-reads b rest h =
    let value : little_number 8 (bits_bytes b ++ rest) ≡ b.value =
    little_number-reads_back 8 b.value (little_bytes 8 b.mask ++ rest) h in
    let mask : little_number 8 (drop 8 (bits_bytes b ++ rest)) ≡ b.mask =
    little_number-reads_back 8 b.mask rest b.fits in
    ap (λ n. bits_of n (little_number 8 (drop 8 (bits_bytes b ++ rest)))) value
    ∙ ap (bits_of b.value) mask ∙ bits_of-is b

wide_in-reads : (w : Wide) (rest : List ℕ) → WideFits w → wide_in (wide_bytes w ++ rest) ≡ Some w
unfolding wide_bytes
wide_in-reads w rest h =
    let bytes = wide_bytes w ++ rest in
    let last = signed_8 w.signed_greatest ++ rest in
    let third = signed_8 w.signed_least ++ last in
    let least : little_number 8 bytes ≡ w.least =
    little_number-reads_back 8 w.least (little_bytes 8 w.greatest ++ third) h.least in
    let greatest : little_number 8 (drop 8 bytes) ≡ w.greatest =
    little_number-reads_back 8 w.greatest third h.greatest in
    let signed_least : signed_64 (drop 16 bytes) ≡ w.signed_least =
    signed_64-reads w.signed_least last h.signed_least in
    let signed_greatest : signed_64 (drop 24 bytes) ≡ w.signed_greatest =
    signed_64-reads w.signed_greatest rest h.signed_greatest in
    ap (λ n. wide_of n (little_number 8 (drop 8 bytes)) (signed_64 (drop 16 bytes))
    (signed_64 (drop 24 bytes))) least
    ∙ ap (λ n. wide_of w.least n (signed_64 (drop 16 bytes)) (signed_64 (drop 24 bytes))) greatest
    ∙ ap (λ (z : ℤ). wide_of w.least w.greatest z (signed_64 (drop 24 bytes))) signed_least
    ∙ ap (wide_of w.least w.greatest w.signed_least) signed_greatest
    ∙ wide_of-is w

low_in-reads : (l : Low) (rest : List ℕ) → LowFits l → low_in (low_bytes l ++ rest) ≡ Some l
unfolding low_bytes
low_in-reads l rest h =
    let bytes = low_bytes l ++ rest in
    let last = signed_4 l.signed_greatest ++ rest in
    let third = signed_4 l.signed_least ++ last in
    let least : little_number 4 bytes ≡ l.least =
    little_number-reads_back 4 l.least (little_bytes 4 l.greatest ++ third) h.least in
    let greatest : little_number 4 (drop 4 bytes) ≡ l.greatest =
    little_number-reads_back 4 l.greatest third h.greatest in
    let signed_least : signed_32 (drop 8 bytes) ≡ l.signed_least =
    signed_32-reads l.signed_least last h.signed_least in
    let signed_greatest : signed_32 (drop 12 bytes) ≡ l.signed_greatest =
    signed_32-reads l.signed_greatest rest h.signed_greatest in
    ap (λ n. low_of n (little_number 4 (drop 4 bytes)) (signed_32 (drop 8 bytes))
    (signed_32 (drop 12 bytes))) least
    ∙ ap (λ n. low_of l.least n (signed_32 (drop 8 bytes)) (signed_32 (drop 12 bytes))) greatest
    ∙ ap (λ (z : ℤ). low_of l.least l.greatest z (signed_32 (drop 12 bytes))) signed_least
    ∙ ap (low_of l.least l.greatest l.signed_least) signed_greatest
    ∙ low_of-is l

length-bits_bytes : (b : Bits) → length (bits_bytes b) ≡ 16
unfolding bits_bytes
length-bits_bytes b = refl

length-wide_bytes : (w : Wide) → length (wide_bytes w) ≡ 32
unfolding wide_bytes
length-wide_bytes w = refl

length-low_bytes : (l : Low) → length (low_bytes l) ≡ 16
unfolding low_bytes
length-low_bytes l = refl

length-scalar_bytes : (s : Scalar) → length (scalar_bytes s) ≡ 64
length-scalar_bytes s =
    omega (
      arith,
      length-append (bits_bytes s.bits) (wide_bytes s.range.wide ++ low_bytes s.range.low),
      length-append (wide_bytes s.range.wide) (low_bytes s.range.low),
      length-bits_bytes s.bits,
      length-wide_bytes s.range.wide,
      length-low_bytes s.range.low,
    )

scalar_in-reads : (s : Scalar) (rest : List ℕ) → ScalarFits s
    → scalar_in (scalar_bytes s ++ rest) ≡ Some s
unfolding scalar_in
scalar_in-reads s rest h =
    let bytes = scalar_bytes s ++ rest in
    let bits = bits_bytes s.bits in
    let wide = wide_bytes s.range.wide in
    let low = low_bytes s.range.low in
    let at_front : bytes ≡ bits ++ (wide ++ (low ++ rest)) = simp append_assoc in
    let behind_bits : drop 16 bytes ≡ wide ++ (low ++ rest) =
    ap (drop 16) at_front
    ∙ drop_at bits (wide ++ (low ++ rest)) 16 (length-bits_bytes s.bits) in
    let in_two : bytes ≡ (bits ++ wide) ++ (low ++ rest) = simp append_assoc in
    let size : length (bits ++ wide) ≡ 48 =
    omega (
      arith,
      length-append bits wide,
      length-bits_bytes s.bits,
      length-wide_bytes
          s.range.wide,
    ) in
    let behind_wide : drop 48 bytes ≡ low ++ rest =
    ap (drop 48) in_two ∙ drop_at (bits ++ wide) (low ++ rest) 48 size in
    ap (λ (o : Option Bits). scalar_of o
    (range_of (wide_in (drop 16 bytes)) (low_in (drop 48 bytes))))
    (ap bits_in at_front ∙ bits_in-reads s.bits (wide ++ (low ++ rest)) h.value)
    ∙ ap (λ (o : Option Wide). scalar_of (Some s.bits) (range_of o (low_in (drop 48 bytes))))
    (ap wide_in behind_bits ∙ wide_in-reads s.range.wide (low ++ rest) h.wide)
    ∙ ap (λ (o : Option Low). scalar_of (Some s.bits) (range_of (Some s.range.wide) o))
    (ap low_in behind_wide ∙ low_in-reads s.range.low rest h.low)

-- ---- pointers

stack_in-reads : (holder frame : ℕ) (offset : ℤ) (rest : List ℕ) → StackFits holder frame offset
    → stack_in holder (frame ∷ (signed_4 offset ++ rest)) ≡ Some (Stack frame offset)
unfolding stack_in
stack_in-reads holder frame offset rest h =
    let byte = byte-reads frame (signed_4 offset ++ rest) in
    let inside : nat_lt holder frame ≡ false = le-ltb holder frame h.up_to_holder in
    rw (byte, inside)
    (ap (λ (z : ℤ). let o : Option Kind = Some (Stack frame z) in o)
    (signed_32-reads offset rest h.offset_width))

limits_in-reads : (least greatest : ℤ) (rest : List ℕ) → FitsSigned w32 least
    → FitsSigned w32 greatest → least ≤ℤ greatest
    → limits_in (signed_4 least ++ (signed_4 greatest ++ rest)) ≡ Some (least, greatest)
limits_in-reads least greatest rest f g in_order =
    let bytes = signed_4 least ++ (signed_4 greatest ++ rest) in
    ap (λ (z : ℤ). limits_of z (signed_32 (drop 4 bytes)))
    (signed_32-reads least (signed_4 greatest ++ rest) f)
    ∙ ap (limits_of least) (signed_32-reads greatest rest g)
    ∙ limits_of-some least greatest in_order

-- where there is no identity, there is no variable part
no_part : (least greatest : ℤ) (rest : List ℕ) → least ≡ pos 0 → greatest ≡ pos 0
    → has_no_part (signed_4 least ++ (signed_4 greatest ++ rest)) ≡ true
no_part least greatest rest e f =
    ap (λ (z : ℤ). has_no_part (signed_4 z ++ (signed_4 greatest ++ rest))) e
    ∙ ap (λ (z : ℤ). has_no_part (signed_4 (pos 0) ++ (signed_4 z ++ rest))) f

either_way : (b c : Bool) → (b ≡ true → c ≡ true) → (b && not c) ≡ false
either_way true true h = refl
either_way true false h = absurd (let wrong : false ≡ true = h refl in cc)
either_way false c h = refl

packet_in-reads : (fixed : ℤ) (identity : ℕ) (least greatest : ℤ) (proved : ℕ) (rest : List ℕ)
    → PacketFits fixed identity least greatest proved
    → packet_in (signed_4 fixed
    ++ (little_bytes 4 identity
    ++ (signed_4 least ++ (signed_4 greatest ++ (little_bytes 4 proved ++ rest)))))
    ≡ Some (Packet fixed identity least greatest proved)
unfolding packet_in
packet_in-reads fixed identity least greatest proved rest h =
    let last = little_bytes 4 proved ++ rest in
    let limits = signed_4 least ++ (signed_4 greatest ++ last) in
    let bytes = signed_4 fixed ++ (little_bytes 4 identity ++ limits) in
    let named : little_number 4 (drop 4 bytes) ≡ identity =
    little_number-reads_back 4 identity limits h.identity_width in
    let lacks : lacks_identity bytes ≡ false =
    ap (λ n. n == 0 && not (has_no_part limits)) named
    ∙ either_way (identity == 0) (has_no_part limits)
    (λ none. let p = h.without (grind arith) in no_part least greatest last p.0 p.1) in
    ap (λ (b : Bool). if b then None
    else packet_of (signed_32 bytes) (little_number 4 (drop 4 bytes)) (limits_in limits)
    (little_number 4 (drop 16 bytes))) lacks
    ∙ ap (λ (z : ℤ). packet_of z (little_number 4 (drop 4 bytes)) (limits_in limits)
    (little_number 4 (drop 16 bytes)))
    (signed_32-reads fixed (little_bytes 4 identity ++ limits) h.fixed_width)
    ∙ ap (λ n. packet_of fixed n (limits_in limits) (little_number 4 (drop 16 bytes))) named
    ∙ ap (λ (o : Option (ℤ × ℤ)). packet_of fixed identity o (little_number 4 (drop 16 bytes)))
    (limits_in-reads least greatest last h.least_width h.greatest_width h.in_order)
    ∙ ap (packet_of fixed identity (Some (least, greatest)))
    (little_number-reads_back 4 proved rest h.proved_width)

has_row : (rows index : ℕ) (rest : List ℕ) → MapFits rows index
    → nat_lt (little_number 1 (index ∷ rest)) rows ≡ true
has_row rows index rest h =
    let byte = byte-reads index rest in let row = h.has_row in rw byte (grind arith)

map_in-reads : (rows index : ℕ) (rest : List ℕ) → MapFits rows index
    → map_in rows (index ∷ rest) ≡ Some (Map index)
unfolding map_in
map_in-reads rows index rest h = rw (has_row rows index rest h, byte-reads index rest) refl

value_in-reads : (rows index : ℕ) (least greatest : ℤ) (rest : List ℕ)
    → ValueFits rows index least greatest
    → value_in rows (index ∷ (signed_4 least ++ (signed_4 greatest ++ rest)))
    ≡ Some (MapValue index least greatest)
unfolding value_in
value_in-reads rows index least greatest rest h =
    let limits = signed_4 least ++ (signed_4 greatest ++ rest) in
    ap (λ (b : Bool). if b then value_of (little_number 1 (index ∷ limits)) (limits_in limits)
    else None) (has_row rows index limits h.map_fits)
    ∙ ap (λ n. value_of n (limits_in limits)) (byte-reads index limits)
    ∙ ap (value_of index)
    (limits_in-reads least greatest rest h.least_width h.greatest_width h.in_order)

null_in-reads : (rows index identity : ℕ) (rest : List ℕ) → NullFits rows index identity
    → null_in rows (index ∷ (little_bytes 4 identity ++ rest))
    ≡ Some (MapValueOrNull index identity)
unfolding null_in
null_in-reads rows index identity rest h =
    let more = little_bytes 4 identity ++ rest in
    let pointer = λ (m n : ℕ). let o : Option Kind = Some (MapValueOrNull m n) in o in
    ap (λ (b : Bool). if b then pointer (little_number 1 (index ∷ more)) (little_number 4 more)
    else None) (has_row rows index more h.map_fits)
    ∙ ap (λ n. pointer n (little_number 4 more)) (byte-reads index more)
    ∙ ap (pointer index) (little_number-reads_back 4 identity rest h.identity_width)

-- ---- kinds

pub sized-reads : {X : Type 0} (n : ℕ) (fields : List ℕ → Option X) (front rest : List ℕ)
    (x : Option X) → length front ≡ n → fields (front ++ rest) ≡ x
    → sized n fields (front ++ rest) ≡ Ok (x, rest)
sized-reads n fields front rest x size h =
    let long : n ≤ length (front ++ rest) = omega (arith, length-append front rest) in
    rw (le-ltb (length (front ++ rest)) n long, h, drop_at front rest n size) refl

pub kind_in-reads : (rows holder : ℕ) (k : Kind) (rest : List ℕ) → KindFits rows holder k
    → kind_in rows holder (kind_bytes k ++ rest) ≡ Ok (Some k, rest)
unfolding kind_in fields_in kind_bytes stack_bytes packet_bytes value_bytes null_bytes
kind_in-reads rows holder Unset rest h = refl
kind_in-reads rows holder (Number s) rest h =
    sized-reads 64 (λ b. option_map Number (scalar_in b)) (scalar_bytes s) rest (Some (Number s))
    (length-scalar_bytes s) (ap (option_map Number) (scalar_in-reads s rest h))
kind_in-reads rows holder Context rest h = refl
kind_in-reads rows holder (Stack frame offset) rest h =
    sized-reads 5 (stack_in holder) (frame ∷ signed_4 offset) rest (Some (Stack frame offset)) refl
    (stack_in-reads holder frame offset rest h)
kind_in-reads rows holder (Packet fixed identity least greatest proved) rest h =
    sized-reads 20 packet_in
    (signed_4 fixed
    ++ (little_bytes 4 identity
    ++ (signed_4 least ++ (signed_4 greatest ++ little_bytes 4 proved)))) rest
    (Some (Packet fixed identity least greatest proved)) refl
    (packet_in-reads fixed identity least greatest proved rest h)
kind_in-reads rows holder PacketEnd rest h = refl
kind_in-reads rows holder (Map index) rest h =
    sized-reads 1 (map_in rows) (index ∷ []) rest (Some (Map index)) refl
    (map_in-reads rows index rest h)
kind_in-reads rows holder (MapValue index least greatest) rest h =
    sized-reads 9 (value_in rows) (index ∷ (signed_4 least ++ signed_4 greatest)) rest
    (Some (MapValue index least greatest)) refl
    (value_in-reads rows index least greatest rest h)
kind_in-reads rows holder (MapValueOrNull index identity) rest h =
    sized-reads 5 (null_in rows) (index ∷ little_bytes 4 identity) rest
    (Some (MapValueOrNull index identity)) refl (null_in-reads rows index identity rest h)

-- ---- stack slots

pub stack_slot_in-reads : (rows holder : ℕ) (s : StackSlot) (rest : List ℕ)
    → StackSlotFits rows holder s
    → stack_slot_in rows holder (stack_slot_bytes s ++ rest) ≡ Ok (Some s, rest)
unfolding stack_slot_in stack_slot_bytes
stack_slot_in-reads rows holder (Written marks) rest h = refl
stack_slot_in-reads rows holder (Spilled Unset) rest h = absurd h
stack_slot_in-reads rows holder (Spilled (Number s)) rest h =
    ap spilled_in (kind_in-reads rows holder (Number s) rest h)
stack_slot_in-reads rows holder (Spilled Context) rest h =
    ap spilled_in (kind_in-reads rows holder Context rest h)
stack_slot_in-reads rows holder (Spilled (Stack frame offset)) rest h =
    ap spilled_in (kind_in-reads rows holder (Stack frame offset) rest h)
stack_slot_in-reads rows holder (Spilled (Packet fixed identity least greatest proved)) rest h =
    ap spilled_in (kind_in-reads rows holder (Packet fixed identity least greatest proved) rest h)
stack_slot_in-reads rows holder (Spilled PacketEnd) rest h =
    ap spilled_in (kind_in-reads rows holder PacketEnd rest h)
stack_slot_in-reads rows holder (Spilled (Map index)) rest h =
    ap spilled_in (kind_in-reads rows holder (Map index) rest h)
stack_slot_in-reads rows holder (Spilled (MapValue index least greatest)) rest h =
    ap spilled_in (kind_in-reads rows holder (MapValue index least greatest) rest h)
stack_slot_in-reads rows holder (Spilled (MapValueOrNull index identity)) rest h =
    ap spilled_in (kind_in-reads rows holder (MapValueOrNull index identity) rest h)
