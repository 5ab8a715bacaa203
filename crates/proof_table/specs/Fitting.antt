-- What a table can spell: each field is of its width, and is allowed.
use Rattle.std.specs.Prelude.{◌≡◌, ℕ, ◌^◌, ◌<◌, ◌≤◌, ℤ, pos, ◌≤ℤ◌, FitsSigned, Bool, true, false, length, get_or, map, All}
use Rattle.std.specs.Int.{w32, w64}
use Rattle.isa_model.specs.Code.Instructions.{Program}
use Rattle.isa_model.specs.Code.Limits.{max_call_frames}
use Rattle.ranges.specs.declared.wide.Wide.{Wide}
use Rattle.ranges.specs.declared.low.Low.{Low}
use Rattle.reg_state.specs.declared.scalars.Scalar.{Scalar}
use Rattle.reg_state.specs.declared.kinds.Kind.{Kind}
use Rattle.reg_state.specs.declared.kinds.Kind.TheVariants.{Unset, Number, Context, Stack, Packet, PacketEnd, Map, MapValue, MapValueOrNull}
use Rattle.stack_state.specs.declared.slots.StackSlot.{StackSlot}
use Rattle.stack_state.specs.declared.slots.StackSlot.TheVariants.{Written, Spilled}
use Rattle.stack_state.specs.declared.states.AbstractFrame.{AbstractFrame}
use Rattle.stack_state.specs.Slots.{frame_slots}
use Rattle.table_entries.specs.Frames.{frame_allowed}
use Rattle.table_entries.specs.Entries.{Entry, head_allowed}

-- ---- numbers

-- their types say the rest: that no bit of the mask is set in the value, and that limits are in
-- order
pub record WideFits (w : Wide) : Type 0 where
  pub least : w.least < 2 ^ 64
  pub greatest : w.greatest < 2 ^ 64
  pub signed_least : FitsSigned w64 w.signed_least
  pub signed_greatest : FitsSigned w64 w.signed_greatest

pub record LowFits (l : Low) : Type 0 where
  pub least : l.least < 2 ^ 32
  pub greatest : l.greatest < 2 ^ 32
  pub signed_least : FitsSigned w32 l.signed_least
  pub signed_greatest : FitsSigned w32 l.signed_greatest

pub record ScalarFits (s : Scalar) : Type 0 where
  pub value : s.bits.value < 2 ^ 64
  pub wide : WideFits s.range.wide
  pub low : LowFits s.range.low

-- ---- pointers; there are `rows` map rows, and `holder` is the call frame that holds them

pub record StackFits (holder frame : ℕ) (offset : ℤ) : Type 0 where
  pub up_to_holder : frame ≤ holder
  pub frame_width : frame < 2 ^ 8
  pub offset_width : FitsSigned w32 offset

-- without an identity there is no variable part
abbrev pub HasNoPart : ℤ → ℤ → Type 0
HasNoPart least greatest = (least ≡ pos 0) × (greatest ≡ pos 0)

pub record PacketFits (fixed : ℤ) (identity : ℕ) (least greatest : ℤ) (proved : ℕ) : Type 0 where
  pub fixed_width : FitsSigned w32 fixed
  pub identity_width : identity < 2 ^ 32
  pub least_width : FitsSigned w32 least
  pub greatest_width : FitsSigned w32 greatest
  pub proved_width : proved < 2 ^ 32
  pub in_order : least ≤ℤ greatest
  pub without : identity ≡ 0 → HasNoPart least greatest

pub record MapFits (rows index : ℕ) : Type 0 where
  pub has_row : index < rows
  pub index_width : index < 2 ^ 8

pub record ValueFits (rows index : ℕ) (least greatest : ℤ) : Type 0 where
  pub map_fits : MapFits rows index
  pub least_width : FitsSigned w32 least
  pub greatest_width : FitsSigned w32 greatest
  pub in_order : least ≤ℤ greatest

pub record NullFits (rows index identity : ℕ) : Type 0 where
  pub map_fits : MapFits rows index
  pub identity_width : identity < 2 ^ 32

-- ---- kinds and stack slots

abbrev pub KindFits : ℕ → ℕ → Kind → Type 0
KindFits rows holder Unset = Unit {0}
KindFits rows holder (Number s) = ScalarFits s
KindFits rows holder Context = Unit {0}
KindFits rows holder (Stack frame offset) = StackFits holder frame offset
KindFits rows holder (Packet fixed identity least greatest proved) =
    PacketFits fixed identity least greatest proved
KindFits rows holder PacketEnd = Unit {0}
KindFits rows holder (Map index) = MapFits rows index
KindFits rows holder (MapValue index least greatest) = ValueFits rows index least greatest
KindFits rows holder (MapValueOrNull index identity) = NullFits rows index identity

abbrev pub StackSlotFits : ℕ → ℕ → StackSlot → Type 0
StackSlotFits rows holder (Written marks) = marks < 2 ^ 8
StackSlotFits rows holder (Spilled Unset) = ⊥
StackSlotFits rows holder (Spilled kind) = KindFits rows holder kind

-- ---- call frames and entries

pub record FrameFits (rows holder : ℕ) (outer : Bool) (f : AbstractFrame) : Type 0 where
  pub return_slot : f.return_slot < 2 ^ 16
  pub ten : length f.registers ≡ 10
  pub registers : All (KindFits rows holder) f.registers
  pub all_slots : length f.stack.slots ≡ frame_slots
  pub slots : All (StackSlotFits rows holder) f.stack.slots
  pub allowed : frame_allowed holder outer f.return_slot f.registers ≡ true

pub record EntryFits (p : Program) (e : Entry) : Type 0 where
  pub allowed : head_allowed p e.number e.state.slot ≡ true
  pub slot : e.state.slot < 2 ^ 16
  pub few : length e.state.callers.items < max_call_frames
  pub callers : (k : ℕ) (d : AbstractFrame) → k < length e.state.callers.items
      → FrameFits (length p.maps) k true (get_or e.state.callers.items k d)
  pub innermost : FrameFits (length p.maps) (length e.state.callers.items) false e.state.innermost
  pub named : length e.successors ≤ 2
  pub indexes : All (λ i. i < 2 ^ 32) e.successors

-- ---- a state as a table says it: where a stack slot holds an unset value, no byte is written

abbrev pub stack_slot_said : StackSlot → StackSlot
stack_slot_said (Spilled Unset) = Written 0
stack_slot_said slot = slot

abbrev pub frame_said : AbstractFrame → AbstractFrame
frame_said f = record f { stack = record { slots = map stack_slot_said f.stack.slots } }

abbrev pub entry_said : Entry → Entry
entry_said e =
    record e {
      state = record e.state {
        callers = record { items = map frame_said e.state.callers.items };
        innermost = frame_said e.state.innermost;
      };
    }
