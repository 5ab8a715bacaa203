-- Effects on an abstract state: other slots in a call frame, and other kinds in every frame.
use Rattle.std.specs.Prelude.{ℕ, ◌==◌, List, map, length, max, Bool, true, false, pos, if◌then◌else◌}
use Rattle.arrayvec.specs.ArrayVec.{with_item}
use Rattle.reg_state.specs.declared.scalars.Scalar.{Scalar}
use Rattle.reg_state.specs.declared.kinds.Kind.{Kind}
use Rattle.reg_state.specs.declared.kinds.Kind.TheVariants.{Number, Packet, MapValue, MapValueOrNull}
use Rattle.stack_state.specs.declared.slots.StackSlot.{StackSlot}
use Rattle.stack_state.specs.declared.slots.StackSlot.TheVariants.{Written, Spilled}
use Rattle.stack_state.specs.declared.states.AbstractFrame.{AbstractFrame}
use Rattle.stack_state.specs.declared.states.State.{State}
use Rattle.stack_state.specs.Meaning.{abstract_frame_at}
use Rattle.stack_state.specs.Slots.{kind_in, forgotten_kind, forgotten}

-- ---- the slots of a frame

abbrev pub with_slots : AbstractFrame → List StackSlot → AbstractFrame
with_slots f slots = record f { stack = record { slots = slots } }

-- another frame at index j
abbrev pub with_frame : State → ℕ → AbstractFrame → State
with_frame a j f =
    if j == length a.callers.items then record a { innermost = f }
    else record a { callers = with_item a.callers j f }

-- other slots in the jth frame
abbrev pub with_frame_slots : State → ℕ → List StackSlot → State
with_frame_slots a j slots = with_frame a j (with_slots (abstract_frame_at a j) slots)

-- ---- every frame

abbrev pub map_frames : (AbstractFrame → AbstractFrame) → State → State
map_frames g a =
    record a { callers = record { items = map g a.callers.items }; innermost = g a.innermost }

-- another kind for a spilled value
abbrev pub with_spilled : (Kind → Kind) → StackSlot → StackSlot
with_spilled g (Written marks) = Written marks
with_spilled g (Spilled k) = Spilled (g k)

abbrev pub with_kinds : (Kind → Kind) → AbstractFrame → AbstractFrame
with_kinds g f =
    record f {
      registers = map g f.registers;
      stack = record { slots = map (with_spilled g) f.stack.slots };
    }

-- other kinds in all registers and slots
abbrev pub map_kinds : (Kind → Kind) → State → State
map_kinds g a = map_frames (with_kinds g) a

-- n bytes after the variable part are in the packet: every copy of the identity shows it
abbrev pub proved_kind : ℕ → ℕ → Kind → Kind
proved_kind i n (Packet fixed identity least greatest proved) =
    Packet fixed identity least greatest (if identity == i then max proved n else proved)
proved_kind i n k = k

-- the kind of a value of the identity, once it is known whether it is null
abbrev pub tested_value : Bool → Scalar → ℕ → Kind
tested_value true zeros m = Number zeros
tested_value false zeros m = MapValue m (pos 0) (pos 0)

-- every copy of the identity is null, or none is
abbrev pub tested_kind : ℕ → Bool → Scalar → Kind → Kind
tested_kind i null zeros (MapValueOrNull m identity) =
    if identity == i then tested_value null zeros m else MapValueOrNull m identity
tested_kind i null zeros k = k

-- ---- a map forgotten

abbrev pub forgotten_register : ℕ → Kind → Kind
forgotten_register m k = kind_in (forgotten_kind m k)

abbrev pub forgotten_frame : ℕ → AbstractFrame → AbstractFrame
forgotten_frame m f =
    record f {
      registers = map (forgotten_register m) f.registers;
      stack = record { slots = forgotten m f.stack.slots };
    }

-- pointers to values of the map are forgotten in all frames
abbrev pub forgotten_in : ℕ → State → State
forgotten_in m a = map_frames (forgotten_frame m) a
