-- The abstract state in which every run begins.
use Rattle.std.specs.Prelude.{List, [], ◌∷◌, replicate}
use Rattle.stack_state.specs.Slots.{frame_slots}
use Rattle.reg_state.specs.declared.kinds.Kind.{Kind}
use Rattle.reg_state.specs.declared.kinds.Kind.TheVariants.{Unset, Context}
use Rattle.stack_state.specs.declared.slots.StackSlot.TheVariants.{Written}
use Rattle.stack_state.specs.declared.states.State.{State}

abbrev pub first_registers : List Kind
first_registers =
    Unset ∷ Context ∷ Unset ∷ Unset ∷ Unset ∷ Unset ∷ Unset ∷ Unset ∷ Unset ∷ Unset ∷ []

-- slot 0 of the code, in one call frame: r1 points to the context, the other registers are unset,
-- and all bytes unwritten
unfoldable pub start : State
start =
    record {
      slot = 0;
      callers = record { items = [] };
      innermost = record {
        return_slot = 0;
        registers = first_registers;
        stack = record { slots = replicate frame_slots (Written 0) };
      };
    }
