-- The results of loads and stores through packet pointers, and of moves of them.
-- Linux, Documentation/bpf/verifier.rst (direct packet access).
use Rattle.std.specs.Prelude.{◌≡◌, ℕ, ◌+◌, ◌*◌, ◌^◌, ◌<◌, ◌≤◌, ◌⊎◌, ◌↔◌, ℤ, pos, ◌+ℤ◌, ◌-ℤ◌, ◌≤ℤ◌, FitsSigned, unsigned_abs, Bool, true, false, Option, Some, None, Result, Ok, Err}
use Rattle.std.specs.Int.{w32, w64, cast_signed, bit_at}
use Rattle.isa_model.specs.declared.sizes.Size.{Size}
use Rattle.isa_model.specs.declared.sizes.SignedSize.{SignedSize}
use Rattle.isa_model.specs.declared.sizes.Width.TheVariants.{Full64}
use Rattle.isa_model.specs.Code.Numbers.{signed}
use Rattle.isa_model.specs.Code.Sizes.{size_bytes, unsigned_size, size_extension}
use Rattle.isa_model.specs.Code.Limits.{offset_limit}
use Rattle.ranges.specs.Keeps.{extension_signed}
use Rattle.reg_state.specs.declared.scalars.Scalar.{Scalar}
use Rattle.reg_state.specs.declared.kinds.Kind.{Kind}
use Rattle.reg_state.specs.declared.kinds.Kind.TheVariants.{Number, Packet, MapValueOrNull}
use Rattle.reg_state.specs.Scalars.{Has, IsNumber}
use Rattle.stack_state.specs.declared.states.State.{State}
use Rattle.stack_state.specs.Identities.{IsLeastFreshPacket}
use Rattle.transfer.specs.declared.refusals.Refusal.{Refusal}
use Rattle.transfer.specs.declared.refusals.Refusal.TheVariants.{PacketBytes, NullNotTested, PointerStored, PointerOffset}
use Rattle.transfer.specs.declared.packets.PacketPointer.{PacketPointer}

-- ---- bytes

-- this number of bytes is in the packet, wherever the variable part is: from 0 up, and within what
-- is proved to be there
pub record AreInPacket (fixed least : ℤ) (proved : ℕ) (by : ℤ) (count : ℕ) : Type 0 where
  pub some : 0 < proved
  pub from : pos 0 ≤ℤ ((fixed +ℤ by) +ℤ least)
  pub to : ((fixed +ℤ by) +ℤ pos count) ≤ℤ pos proved

-- ---- loads

-- any number of this size: no other bit may be 1, and the limits are no wider; those with a sign
-- are narrower for fewer than 8 bytes
pub record IsOfSize (size : Size) (c : Scalar) : Type 0 where
  pub members : (x : ℕ) → (Has c x ↔ (x < 2 ^ (8 * size_bytes size)))
  pub unknown : (i : ℕ) → bit_at c.bits.mask i ≡ 1 → i < 8 * size_bytes size
  pub least : c.range.wide.least ≡ 0
  pub greatest : c.range.wide.greatest + 1 ≡ 2 ^ (8 * size_bytes size)
  pub signed_least : size_bytes size < 8 → c.range.wide.signed_least ≡ pos 0
  pub signed_greatest : size_bytes size < 8
      → c.range.wide.signed_greatest ≡ pos c.range.wide.greatest

-- any number of this size with a sign, in 64 bits
pub record IsOfSignedSize (size : SignedSize) (c : Scalar) : Type 0 where
  pub members : (x : ℕ)
      → (Has c x
      ↔ ((x < 2 ^ 64) × FitsSigned (extension_signed (size_extension size)) (cast_signed w64 x)))
  pub signed_least : FitsSigned (extension_signed (size_extension size)) c.range.wide.signed_least
  pub signed_greatest : FitsSigned
      (extension_signed (size_extension size)) c.range.wide.signed_greatest

abbrev pub IsNumberOf : (Scalar → Type 0) → Kind → Type 0
IsNumberOf says (Number c) = says c
IsNumberOf says k = ⊥

-- a number, if the bytes are there, and else the refusal
abbrev pub GivesIf : Refusal → Type 0 → (Scalar → Type 0) → Result Kind Refusal → Type 0
GivesIf refusal inside says (Ok k) = inside × IsNumberOf says k
GivesIf refusal inside says (Err e) = (e ≡ refusal) × ¬ inside

abbrev pub PacketLoads : Size → ℤ → ℤ → ℕ → ℤ → Result Kind Refusal → Type 0
PacketLoads size fixed least proved by result =
    GivesIf PacketBytes (AreInPacket fixed least proved by (size_bytes size)) (IsOfSize size) result

abbrev pub PacketLoadsSigned : SignedSize → ℤ → ℤ → ℕ → ℤ → Result Kind Refusal → Type 0
PacketLoadsSigned size fixed least proved by result =
    GivesIf PacketBytes (AreInPacket fixed least proved by (size_bytes (unsigned_size size)))
    (IsOfSignedSize size) result

-- ---- stores

-- a number is stored, and no pointer
abbrev pub IsStoredNumber : Kind → Result (Unit {0}) Refusal → Type 0
IsStoredNumber (Number numbers) result = result ≡ Ok tt
IsStoredNumber (MapValueOrNull m identity) result = result ≡ Err NullNotTested
IsStoredNumber k result = result ≡ Err PointerStored

-- the bytes are tested first
abbrev pub StoresIf : Refusal → Type 0 → Kind → Result (Unit {0}) Refusal → Type 0
StoresIf refusal inside source result =
    (inside × IsStoredNumber source result) ⊎ ((¬ inside) × (result ≡ Err refusal))

abbrev pub PacketStores : Size → ℤ → ℤ → ℕ → ℤ → Kind → Result (Unit {0}) Refusal → Type 0
PacketStores size fixed least proved by source result =
    StoresIf PacketBytes (AreInPacket fixed least proved by (size_bytes size)) source result

-- ---- moves

-- forward, or back
abbrev pub moved_by : Bool → ℤ → ℤ → ℤ
moved_by true z by = z -ℤ by
moved_by false z by = z +ℤ by

-- the least and the greatest offset after a move by a distance between two limits
abbrev pub lowest : Bool → PacketPointer → ℤ → ℤ → ℤ
lowest true p near far = (p.fixed +ℤ p.least) -ℤ far
lowest false p near far = (p.fixed +ℤ p.least) +ℤ near

abbrev pub highest : Bool → PacketPointer → ℤ → ℤ → ℤ
highest true p near far = (p.fixed +ℤ p.greatest) -ℤ near
highest false p near far = (p.fixed +ℤ p.greatest) +ℤ far

-- both are offsets that a pointer may have
pub record AreOffsets (from to : ℤ) : Type 0 where
  pub from_is : unsigned_abs from ≤ offset_limit
  pub to_is : unsigned_abs to ≤ offset_limit

abbrev pub IsLimited : ℤ → Result ℤ Refusal → Type 0
IsLimited z (Ok offset) = (offset ≡ z) × (unsigned_abs z ≤ offset_limit)
IsLimited z (Err e) = (e ≡ PointerOffset) × ¬ (unsigned_abs z ≤ offset_limit)

abbrev pub AreLimited : ℤ → ℤ → Result (ℤ × ℤ) Refusal → Type 0
AreLimited from to (Ok limits) = (limits.0 ≡ from) × (limits.1 ≡ to) × AreOffsets from to
AreLimited from to (Err e) = (e ≡ PointerOffset) × ¬ AreOffsets from to

-- a part of an offset is a number of 32 bits with a sign
abbrev pub IsOffsetPart : ℤ → Option ℤ → Type 0
IsOffsetPart z (Some part) = (part ≡ z) × FitsSigned w32 z
IsOffsetPart z None = ¬ FitsSigned w32 z

abbrev pub OffsetsHaveRoom : ℤ → ℤ → Type 0
OffsetsHaveRoom least greatest = FitsSigned w32 least × FitsSigned w32 greatest

abbrev pub AreOffsetParts : ℤ → ℤ → Option (ℤ × ℤ) → Type 0
AreOffsetParts least greatest (Some parts) =
    (parts.0 ≡ least) × (parts.1 ≡ greatest) × OffsetsHaveRoom least greatest
AreOffsetParts least greatest None = ¬ OffsetsHaveRoom least greatest

-- the proved bytes after a move: fewer by the growth of the greatest variable part, if that leaves
-- a positive number of 32 bits; else none
pub record StaysProved (proved : ℕ) (growth : ℤ) (left : ℕ) : Type 0 where
  pub some : 0 < left → (0 < proved) × (pos left ≡ (pos proved -ℤ growth))
  pub none : left ≡ 0 → 0 < proved
      → ((pos proved -ℤ growth) ≤ℤ pos 0) ⊎ (pos (2 ^ 32) ≤ℤ (pos proved -ℤ growth))

-- a pointer with the least new identity
pub record IsFreshPointer (a : State) (fixed least greatest : ℤ) (proved : ℕ)
    (k : Kind) : Type 0 where
  pub identity : ℕ
  pub fresh : IsLeastFreshPacket a identity
  pub pointer : k ≡ Packet fixed identity least greatest proved

-- the limits of the variable part after a move by a distance between two limits; the fixed part
-- stays
abbrev pub least_part : Bool → PacketPointer → ℤ → ℤ → ℤ
least_part back p near far = lowest back p near far -ℤ p.fixed

abbrev pub greatest_part : Bool → PacketPointer → ℤ → ℤ → ℤ
greatest_part back p near far = highest back p near far -ℤ p.fixed

-- the variable part is moved, if it has room for that
pub record IsMovedVariable (a : State) (back : Bool) (p : PacketPointer) (near far : ℤ)
    (k : Kind) : Type 0 where
  pub room : OffsetsHaveRoom (least_part back p near far) (greatest_part back p near far)
  pub proved : ℕ
  pub stays : StaysProved p.proved (greatest_part back p near far -ℤ p.greatest) proved
  pub pointer : IsFreshPointer a p.fixed (least_part back p near far)
      (greatest_part back p near far) proved k

-- if it has none, the whole offset becomes the variable part, and no bytes are proved
pub record IsMovedBetween (a : State) (back : Bool) (p : PacketPointer) (near far : ℤ)
    (k : Kind) : Type 0 where
  pub within : AreOffsets (lowest back p near far) (highest back p near far)
  pub pointer : IsMovedVariable a back p near far k
      ⊎ ((¬ OffsetsHaveRoom (least_part back p near far) (greatest_part back p near far))
      × IsFreshPointer a (pos 0) (lowest back p near far) (highest back p near far) 0 k)

-- a move by a known distance moves the fixed part
pub record IsMovedFixed (back : Bool) (p : PacketPointer) (by : ℤ) (k : Kind) : Type 0 where
  pub room : FitsSigned w32 (moved_by back p.fixed by)
  pub pointer : k ≡ Packet (moved_by back p.fixed by) p.identity p.least p.greatest p.proved

-- if that has room for it
pub record IsMovedBy (a : State) (back : Bool) (p : PacketPointer) (by : ℤ)
    (k : Kind) : Type 0 where
  pub within : AreOffsets (lowest back p by by) (highest back p by by)
  pub pointer : IsMovedFixed back p by k
      ⊎ ((¬ FitsSigned w32 (moved_by back p.fixed by))
      × IsFreshPointer a (pos 0) (lowest back p by by) (highest back p by by) 0 k)

abbrev pub MovesBetween : State → Bool → PacketPointer → ℤ → ℤ → Result Kind Refusal → Type 0
MovesBetween a back p near far (Ok k) = IsMovedBetween a back p near far k
MovesBetween a back p near far (Err e) =
    (e ≡ PointerOffset) × ¬ AreOffsets (lowest back p near far) (highest back p near far)

abbrev pub MovesBy : State → Bool → PacketPointer → ℤ → Result Kind Refusal → Type 0
MovesBy a back p by (Ok k) = IsMovedBy a back p by k
MovesBy a back p by (Err e) =
    (e ≡ PointerOffset) × ¬ AreOffsets (lowest back p by by) (highest back p by by)

-- a known number is the distance of the move, read with a sign
pub record MovesByNumber (a : State) (back : Bool) (p : PacketPointer) (by : Scalar)
    (result : Result Kind Refusal) : Type 0 where
  pub number : ℕ
  pub alone : IsNumber by number
  pub moves : MovesBy a back p (signed Full64 number) result

-- any other number by a distance between its signed limits
pub record MovesByLimits (a : State) (back : Bool) (p : PacketPointer) (by : Scalar)
    (result : Result Kind Refusal) : Type 0 where
  pub several : (n : ℕ) → ¬ IsNumber by n
  pub moves : MovesBetween a back p by.range.wide.signed_least by.range.wide.signed_greatest result

abbrev pub PacketMoves : State → Bool → PacketPointer → Scalar → Result Kind Refusal → Type 0
PacketMoves a back p by result = MovesByNumber a back p by result ⊎ MovesByLimits a back p by result
