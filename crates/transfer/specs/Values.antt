-- The results of wide loads of maps, of loads and stores through pointers to map values, and of
-- moves of these.
-- bpf(2) (maps); Linux, Documentation/bpf/verifier.rst (pointers to map values).
use Rattle.std.specs.Prelude.{◌≡◌, ℕ, ◌^◌, ◌<◌, ℤ, pos, ◌+ℤ◌, ◌-ℤ◌, ◌≤ℤ◌, Bool, true, false, Option, Some, None, Result, Ok, Err}
use Rattle.isa_model.specs.declared.sizes.Size.{Size}
use Rattle.isa_model.specs.declared.sizes.SignedSize.{SignedSize}
use Rattle.isa_model.specs.declared.sizes.Width.TheVariants.{Full64}
use Rattle.isa_model.specs.declared.instructions.Insn.{Insn}
use Rattle.isa_model.specs.declared.instructions.Insn.TheVariants.{LoadMap, LoadMapValue}
use Rattle.isa_model.specs.declared.map_defs.MapDef.{MapDef}
use Rattle.isa_model.specs.Code.Numbers.{signed}
use Rattle.isa_model.specs.Code.Sizes.{size_bytes, unsigned_size}
use Rattle.reg_state.specs.declared.scalars.Scalar.{Scalar}
use Rattle.reg_state.specs.declared.kinds.Kind.{Kind}
use Rattle.reg_state.specs.declared.kinds.Kind.TheVariants.{MapValue}
use Rattle.transfer.specs.declared.refusals.Refusal.{Refusal}
use Rattle.transfer.specs.declared.refusals.Refusal.TheVariants.{MapValueBytes, PointerOffset}
use Rattle.transfer.specs.Packets.{IsOfSize, IsOfSignedSize, GivesIf, StoresIf, AreOffsets}

-- ---- wide loads

-- the map and the offset that a wide load names fit the fields of kinds
abbrev pub NamesFit : Insn → Type 0
NamesFit (LoadMap d m) = m < 2 ^ 8
NamesFit (LoadMapValue d m offset) = (m < 2 ^ 8) × (offset < 2 ^ 31)
NamesFit i = Unit {0}

-- ---- bytes

-- how many bytes each value of a map has
abbrev pub value_size : Option MapDef → ℕ
value_size (Some row) = row.value_size
value_size None = 0

-- this number of bytes is in a map value of `value_bytes` bytes, wherever the pointer points
pub record AreInValue (value_bytes : ℕ) (least greatest by : ℤ) (count : ℕ) : Type 0 where
  pub from : pos 0 ≤ℤ (least +ℤ by)
  pub to : ((greatest +ℤ by) +ℤ pos count) ≤ℤ pos value_bytes

-- ---- loads and stores

-- nothing is known of the bytes of a map value
abbrev pub ValueLoads : Size → ℕ → ℤ → ℤ → ℤ → Result Kind Refusal → Type 0
ValueLoads size value_bytes least greatest by result =
    GivesIf MapValueBytes (AreInValue value_bytes least greatest by (size_bytes size))
    (IsOfSize size) result

abbrev pub ValueLoadsSigned : SignedSize → ℕ → ℤ → ℤ → ℤ → Result Kind Refusal → Type 0
ValueLoadsSigned size value_bytes least greatest by result =
    GivesIf MapValueBytes
    (AreInValue value_bytes least greatest by (size_bytes (unsigned_size size)))
    (IsOfSignedSize size) result

abbrev pub ValueStores : Size → ℕ → ℤ → ℤ → ℤ → Kind → Result (Unit {0}) Refusal → Type 0
ValueStores size value_bytes least greatest by source result =
    StoresIf MapValueBytes (AreInValue value_bytes least greatest by (size_bytes size))
    source result

-- ---- moves

-- the limits of the distance by which a number moves a pointer: the number itself, read with a
-- sign, if it is known, and else its signed limits
abbrev pub nearest : Scalar → Option ℕ → ℤ
nearest by (Some n) = signed Full64 n
nearest by None = by.range.wide.signed_least

abbrev pub farthest : Scalar → Option ℕ → ℤ
farthest by (Some n) = signed Full64 n
farthest by None = by.range.wide.signed_greatest

-- the least and the greatest offset after a move by a distance between two limits
abbrev pub moved_least : Bool → ℤ → ℤ → ℤ → ℤ
moved_least true least near far = least -ℤ far
moved_least false least near far = least +ℤ near

abbrev pub moved_greatest : Bool → ℤ → ℤ → ℤ → ℤ
moved_greatest true greatest near far = greatest -ℤ near
moved_greatest false greatest near far = greatest +ℤ far

abbrev pub PointsBetween : ℕ → ℤ → ℤ → Result Kind Refusal → Type 0
PointsBetween m from to (Ok k) = (k ≡ MapValue m from to) × AreOffsets from to
PointsBetween m from to (Err e) = (e ≡ PointerOffset) × ¬ AreOffsets from to

abbrev pub ValueMoves : Bool → ℕ → ℤ → ℤ → ℤ → ℤ → Result Kind Refusal → Type 0
ValueMoves back m least greatest near far result =
    PointsBetween m (moved_least back least near far) (moved_greatest back greatest near far) result
