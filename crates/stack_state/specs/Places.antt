-- Places of an abstract state: its registers. The state with another kind in one of them, or at
-- another slot of the code.
use Rattle.std.specs.Prelude.{ℕ, pos, length, slice_set}
use Rattle.isa_model.specs.declared.registers.Reg.{Reg}
use Rattle.isa_model.specs.declared.registers.Reg.TheVariants.{R10}
use Rattle.isa_model.specs.Code.Registers.{reg_number}
use Rattle.reg_state.specs.declared.kinds.Kind.{Kind}
use Rattle.reg_state.specs.declared.kinds.Kind.TheVariants.{Stack}
use Rattle.stack_state.specs.declared.states.AbstractFrame.{AbstractFrame}
use Rattle.stack_state.specs.declared.states.State.{State}
use Rattle.stack_state.specs.Meaning.{kind_at, registers_of}

-- the kind of a register; r10 points to the end of the innermost call frame
abbrev pub kind_of : State → Reg → Kind
kind_of a R10 = Stack (length a.callers.items) (pos 0)
kind_of a r = kind_at (registers_of a) (reg_number r)

abbrev pub with_kind : AbstractFrame → ℕ → Kind → AbstractFrame
with_kind f n k = record f { registers = slice_set f.registers n k }

-- another kind in a register
abbrev pub with_register : State → Reg → Kind → State
with_register a r k = record a { innermost = with_kind a.innermost (reg_number r) k }

-- the same state at another slot of the code
abbrev pub go_to : State → ℕ → State
go_to a slot = record a { slot = slot }
