-- Proof tables as bytes: the magic XPT1, a u32 count, and the entries;
-- the lowest byte of a number comes first.
use Rattle.std.specs.Prelude.{ℕ, suc, ℤ, List, [], ◌∷◌, ◌++◌, codes, length}
use Rattle.std.specs.List.{flat_map}
use Rattle.std.specs.Int.{w32, w64, cast_unsigned}
use Rattle.byteorder.specs.Endian.{little_bytes}
use Rattle.known_bits.specs.declared.bits.Bits.{Bits}
use Rattle.ranges.specs.declared.wide.Wide.{Wide}
use Rattle.ranges.specs.declared.low.Low.{Low}
use Rattle.reg_state.specs.declared.scalars.Scalar.{Scalar}
use Rattle.reg_state.specs.declared.kinds.Kind.{Kind}
use Rattle.reg_state.specs.declared.kinds.Kind.TheVariants.{Unset, Number, Context, Stack, Packet, PacketEnd, Map, MapValue, MapValueOrNull}
use Rattle.stack_state.specs.declared.slots.StackSlot.{StackSlot}
use Rattle.stack_state.specs.declared.slots.StackSlot.TheVariants.{Written, Spilled}
use Rattle.stack_state.specs.declared.states.AbstractFrame.{AbstractFrame}
use Rattle.table_entries.specs.Entries.{Entry}

-- ---- numbers

abbrev pub signed_4 : ℤ → List ℕ
signed_4 z = little_bytes 4 (cast_unsigned w32 z)

abbrev pub signed_8 : ℤ → List ℕ
signed_8 z = little_bytes 8 (cast_unsigned w64 z)

-- value and mask
unfoldable pub bits_bytes : Bits → List ℕ
bits_bytes b = little_bytes 8 b.value ++ little_bytes 8 b.mask

-- the limits at 64 bits, unsigned and then signed
unfoldable pub wide_bytes : Wide → List ℕ
wide_bytes w = little_bytes 8 w.least
    ++ (little_bytes 8 w.greatest ++ (signed_8 w.signed_least ++ signed_8 w.signed_greatest))

-- those of the low halves
unfoldable pub low_bytes : Low → List ℕ
low_bytes l = little_bytes 4 l.least
    ++ (little_bytes 4 l.greatest ++ (signed_4 l.signed_least ++ signed_4 l.signed_greatest))

abbrev pub scalar_bytes : Scalar → List ℕ
scalar_bytes s = bits_bytes s.bits ++ (wide_bytes s.range.wide ++ low_bytes s.range.low)

-- ---- kinds: a byte that says which kind it is, and its fields

unfoldable pub stack_bytes : ℕ → ℤ → List ℕ
stack_bytes frame offset = 3 ∷ (frame ∷ signed_4 offset)

unfoldable pub packet_bytes : ℤ → ℕ → ℤ → ℤ → ℕ → List ℕ
packet_bytes fixed identity least greatest proved =
    4 ∷ (signed_4 fixed
    ++ (little_bytes 4 identity
    ++ (signed_4 least ++ (signed_4 greatest ++ little_bytes 4 proved))))

unfoldable pub value_bytes : ℕ → ℤ → ℤ → List ℕ
value_bytes index least greatest = 7 ∷ (index ∷ (signed_4 least ++ signed_4 greatest))

unfoldable pub null_bytes : ℕ → ℕ → List ℕ
null_bytes index identity = 8 ∷ (index ∷ little_bytes 4 identity)

unfoldable pub kind_bytes : Kind → List ℕ
kind_bytes Unset = 0 ∷ []
kind_bytes (Number s) = 1 ∷ scalar_bytes s
kind_bytes Context = 2 ∷ []
kind_bytes (Stack frame offset) = stack_bytes frame offset
kind_bytes (Packet fixed identity least greatest proved) =
    packet_bytes fixed identity least greatest proved
kind_bytes PacketEnd = 5 ∷ []
kind_bytes (Map index) = 6 ∷ (index ∷ [])
kind_bytes (MapValue index least greatest) = value_bytes index least greatest
kind_bytes (MapValueOrNull index identity) = null_bytes index identity

-- a stack slot: 0 and the marks of written bytes, or 1 and a kind; a spilled value about which
-- nothing is known is spelled as a stack slot without marks
unfoldable pub stack_slot_bytes : StackSlot → List ℕ
stack_slot_bytes (Written marks) = 0 ∷ (marks ∷ [])
stack_slot_bytes (Spilled Unset) = 0 ∷ (0 ∷ [])
stack_slot_bytes (Spilled kind) = 1 ∷ kind_bytes kind

-- ---- call frames and entries

-- the return slot, ten kinds, 64 stack slots
unfoldable pub frame_bytes : AbstractFrame → List ℕ
frame_bytes f = little_bytes 2 f.return_slot
    ++ (flat_map kind_bytes f.registers ++ flat_map stack_slot_bytes f.stack.slots)

-- the frames, the outermost first, after their count
abbrev pub frames_bytes : List AbstractFrame → AbstractFrame → List ℕ
frames_bytes callers innermost =
    suc (length callers) ∷ (flat_map frame_bytes callers ++ frame_bytes innermost)

-- the indexes of the entries that are named, after their count
abbrev pub named_bytes : List ℕ → List ℕ
named_bytes successors = length successors ∷ flat_map (little_bytes 4) successors

-- number, slot, frames, and the entries that are named
unfoldable pub entry_bytes : Entry → List ℕ
entry_bytes e =
    little_bytes 4 e.number
    ++ (little_bytes 2 e.state.slot
    ++ (frames_bytes e.state.callers.items e.state.innermost ++ named_bytes e.successors))

-- ---- tables

abbrev pub head_bytes : ℕ → List ℕ
head_bytes count = codes "XPT1" ++ little_bytes 4 count

abbrev pub table_bytes : List Entry → List ℕ
table_bytes entries = head_bytes (length entries) ++ flat_map entry_bytes entries
