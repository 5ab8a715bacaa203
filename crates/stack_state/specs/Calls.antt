-- Local calls and exits of abstract states: a call frame pushed, and popped.
use Rattle.std.specs.Prelude.{ℕ, ◌+◌, ◌-◌, ◌==◌, List, [], ◌∷◌, ◌++◌, take, length, replicate, if◌then◌else◌}
use Rattle.stack_state.specs.Slots.{frame_slots}
use Rattle.reg_state.specs.declared.kinds.Kind.{Kind}
use Rattle.reg_state.specs.declared.kinds.Kind.TheVariants.{Unset, Stack}
use Rattle.reg_state.specs.Kinds.{Assigned}
use Rattle.stack_state.specs.declared.slots.StackSlot.{StackSlot}
use Rattle.stack_state.specs.declared.slots.StackSlot.TheVariants.{Written}
use Rattle.stack_state.specs.declared.states.AbstractFrame.{AbstractFrame}
use Rattle.stack_state.specs.declared.states.State.{State}
use Rattle.stack_state.specs.Meaning.{kind_at, abstract_frame_at, registers_of}
use Rattle.stack_state.specs.Effects.{map_kinds}

-- ---- calls

-- r6 to r9, which a call keeps
abbrev pub kept_kinds : List Kind → List Kind
kept_kinds ks =
    Unset ∷ Unset ∷ Unset ∷ Unset ∷ Unset ∷ Unset ∷ kind_at ks 6 ∷ kind_at ks 7 ∷ kind_at ks 8
    ∷ kind_at ks 9 ∷ []

-- r1 to r5, which it passes to the function
abbrev pub argument_kinds : List Kind → List Kind
argument_kinds ks =
    Unset ∷ kind_at ks 1 ∷ kind_at ks 2 ∷ kind_at ks 3 ∷ kind_at ks 4 ∷ kind_at ks 5 ∷ Unset ∷ Unset
    ∷ Unset ∷ Unset ∷ []

-- the slots of a call frame of whose bytes nothing is known
unfoldable pub unset_slots : List StackSlot
unset_slots = replicate frame_slots (Written 0)

-- the call frame of a caller
abbrev pub caller_of : AbstractFrame → AbstractFrame
caller_of f = record f { registers = kept_kinds f.registers }

-- the call frame of a function that is called
abbrev pub callee_of : AbstractFrame → ℕ → AbstractFrame
callee_of f slot =
    record {
      return_slot = slot;
      registers = argument_kinds f.registers;
      stack = record { slots = unset_slots };
    }

-- a call of the function at a slot of the code
abbrev pub entered : State → ℕ → State
entered a target =
    record {
      slot = target;
      callers = record { items = a.callers.items ++ caller_of a.innermost ∷ [] };
      innermost = callee_of a.innermost (a.slot + 1);
    }

-- the assignment with one call frame more
abbrev pub with_new_frame : Assigned → ℕ → Assigned
with_new_frame e serial = record e { frames = e.frames ++ serial ∷ [] }

-- ---- exits

-- r0 as the callee leaves it, and r6 to r9 as they were kept
abbrev pub left_kinds : Kind → List Kind → List Kind
left_kinds answer ks =
    answer ∷ Unset ∷ Unset ∷ Unset ∷ Unset ∷ Unset ∷ kind_at ks 6 ∷ kind_at ks 7 ∷ kind_at ks 8
    ∷ kind_at ks 9 ∷ []

-- the call frame of the caller that is returned to
abbrev pub resumed_of : AbstractFrame → Kind → AbstractFrame
resumed_of f answer = record f { registers = left_kinds answer f.registers }

-- the exit of the innermost call frame to its caller
abbrev pub left : State → State
left a =
    let n = length a.callers.items - 1 in
    record {
      slot = a.innermost.return_slot;
      callers = record { items = take n a.callers.items };
      innermost = resumed_of (abstract_frame_at a n) (kind_at (registers_of a) 0);
    }

-- the assignment without the innermost call frame
abbrev pub without_last : Assigned → Assigned
without_last e = record e { frames = take (length e.frames - 1) e.frames }

-- a pointer into the nth call frame is forgotten
abbrev pub without_frame : ℕ → Kind → Kind
without_frame n (Stack f z) = if f == n then Unset else Stack f z
without_frame n k = k

-- the exit of the innermost call frame to its caller, once nothing points into it
abbrev pub ended : State → State
ended a = left (map_kinds (without_frame (length a.callers.items)) a)
