-- What parts of a call frame were before they changed.
use Rattle.std.specs.Prelude.{ℕ, List, [], ◌∷◌, drop, Option, Some, None}
use Rattle.reg_state.specs.declared.scalars.Scalar.{Scalar}
use Rattle.reg_state.specs.declared.kinds.Kind.{Kind}
use Rattle.reg_state.specs.declared.kinds.Kind.TheVariants.{Unset, Number, Packet}
use Rattle.stack_state.specs.declared.slots.StackSlot.TheVariants.{Written, Spilled}
use Rattle.stack_state.specs.declared.states.AbstractFrame.{AbstractFrame}
use Rattle.stack_state.specs.Meaning.{kind_at}
use Rattle.stack_state.specs.Slots.{slot_at, kind_in}
use Rattle.state_index.specs.declared.parts.Part.{Part}
use Rattle.state_index.specs.declared.parts.Part.TheVariants.{InRegister, InSlot}
use Rattle.kept_states.specs.declared.differences.Differences.{Differences}
use Rattle.kept_states.specs.declared.part_changes.ShortPlace.{ShortPlace}
use Rattle.kept_states.specs.declared.part_changes.ShortPlace.TheVariants.{Register, Slot}
use Rattle.kept_states.specs.declared.part_changes.ShortPacket.{ShortPacket}
use Rattle.kept_states.specs.declared.part_changes.Change.{Change}
use Rattle.kept_states.specs.declared.part_changes.Change.TheVariants.{UnsetRegister, WrittenSlot, ConstantIn, NumberInRegister, NumberInSlot, PacketAt, WholePart}
use Rattle.kept_states.specs.Constants.{constant_part}
use Rattle.kept_states.specs.EarlierNumbers.{NumberStacks, earlier_number, numbers_left}

-- what was kept of parts, the last ones first
pub record PartStacks : Type 0 where
  pub numbers : NumberStacks
  pub constants : List ℕ
  pub packets : List ShortPacket
  pub parts : List Part

-- the part that says that a register, or a stack slot, has a value of the kind
abbrev pub part_at : ShortPlace → Kind → Part
part_at (Register n) k = InRegister n k
part_at (Slot n) k = InSlot n (Spilled k)

abbrev pub packet_kind : ShortPacket → Kind
packet_kind p = Packet p.fixed p.identity p.least p.greatest p.proved

abbrev pub number_in : Kind → Option Scalar
number_in (Number s) = Some s
number_in _ = None

-- the number that is at a place of a frame, if there is one
abbrev pub number_at : AbstractFrame → ShortPlace → Option Scalar
number_at f (Register n) = number_in (kind_at f.registers n)
number_at f (Slot n) = number_in (kind_in (slot_at f.stack.slots n))

abbrev pub number_change : ShortPlace → Differences → Change
number_change (Register n) d = NumberInRegister n d
number_change (Slot n) d = NumberInSlot n d

-- no part was kept: this one stands for it
abbrev pub no_part : Part
no_part = InRegister 0 Unset

abbrev pub number_part : ShortPlace → Option Scalar → (Scalar → Scalar) → Part
number_part place (Some there) earlier = part_at place (Number (earlier there))
number_part place None earlier = no_part

abbrev pub constant_left : ℕ → List ℕ → Part
constant_left n (v ∷ constants) = constant_part n v
constant_left n [] = no_part

abbrev pub packet_part : ShortPlace → List ShortPacket → Part
packet_part place (p ∷ packets) = part_at place (packet_kind p)
packet_part place [] = no_part

abbrev pub whole_part : List Part → Part
whole_part (p ∷ parts) = p
whole_part [] = no_part

-- what a part was before its last change, of which the frame has what it became
abbrev pub earlier_part : Change → PartStacks → AbstractFrame → Part
earlier_part (UnsetRegister n) s f = InRegister n Unset
earlier_part (WrittenSlot n marks) s f = InSlot n (Written marks)
earlier_part (ConstantIn n) s f = constant_left n s.constants
earlier_part (NumberInRegister n d) s f =
    number_part (Register n) (number_at f (Register n)) (earlier_number d s.numbers)
earlier_part (NumberInSlot n d) s f =
    number_part (Slot n) (number_at f (Slot n)) (earlier_number d s.numbers)
earlier_part (PacketAt place) s f = packet_part place s.packets
earlier_part WholePart s f = whole_part s.parts

abbrev pub number_left : Option Scalar → NumberStacks → NumberStacks → NumberStacks
number_left (Some there) all left = left
number_left None all left = all

-- what was kept of the parts that changed before
abbrev pub parts_left : Change → PartStacks → AbstractFrame → PartStacks
parts_left (UnsetRegister n) s f = s
parts_left (WrittenSlot n marks) s f = s
parts_left (ConstantIn n) s f = record s { constants = drop 1 s.constants }
parts_left (NumberInRegister n d) s f =
    record s {
      numbers = number_left (number_at f (Register n)) s.numbers (numbers_left d s.numbers);
    }
parts_left (NumberInSlot n d) s f =
    record s { numbers = number_left (number_at f (Slot n)) s.numbers (numbers_left d s.numbers) }
parts_left (PacketAt place) s f = record s { packets = drop 1 s.packets }
parts_left WholePart s f = record s { parts = drop 1 s.parts }
