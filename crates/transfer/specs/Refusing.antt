-- When the tests of an instruction's registers fail, and why an access through a kind is refused.
use Rattle.std.specs.Prelude.{Bool, true, false, ◌||◌, if◌then◌else◌, Option, Some, None}
use Rattle.std.specs.List.{list_any}
use Rattle.isa_model.specs.declared.registers.Reg.{Reg}
use Rattle.isa_model.specs.declared.instructions.Cond.{Cond}
use Rattle.isa_model.specs.declared.instructions.Operand.{Operand}
use Rattle.isa_model.specs.declared.instructions.Operand.TheVariants.{Constant, Register}
use Rattle.isa_model.specs.declared.instructions.Insn.{Insn}
use Rattle.isa_model.specs.Code.Instructions.{reads, writes, is_frame_pointer}
use Rattle.reg_state.specs.declared.kinds.Kind.{Kind}
use Rattle.reg_state.specs.declared.kinds.Kind.TheVariants as kind
use Rattle.stack_state.specs.declared.states.State.{State}
use Rattle.stack_state.specs.Places.{kind_of}
use Rattle.transfer.specs.declared.refusals.Refusal.{Refusal}
use Rattle.transfer.specs.declared.refusals.Refusal.TheVariants.{UnsetRegister, ReadOnlyRegister, NotMemory, ContextAccess, NullNotTested, Comparison}

abbrev pub is_unset : Kind → Bool
is_unset kind.Unset = true
is_unset k = false

abbrev pub is_unset_in : State → Reg → Bool
is_unset_in a r = is_unset (kind_of a r)

-- some register that the instruction reads is not known to be set
abbrev pub reads_unset : State → Insn → Bool
reads_unset a i = list_any (is_unset_in a) (reads i)

-- the tests of the registers, the lowest number first
abbrev pub register_refusal : State → Insn → Option Refusal
register_refusal a i =
    if reads_unset a i then Some UnsetRegister
    else if is_frame_pointer (writes i) then Some ReadOnlyRegister
    else None

-- why an access through a kind is refused, if no other test decides
abbrev pub access_refusal : Kind → Refusal
access_refusal kind.Context = ContextAccess
access_refusal (kind.MapValueOrNull index identity) = NullNotTested
access_refusal k = NotMemory

-- ---- comparisons

-- what was looked up, before its null test
abbrev pub is_untested : Kind → Bool
is_untested (kind.MapValueOrNull index identity) = true
is_untested k = false

abbrev pub is_untested_operand : State → Operand → Bool
is_untested_operand a (Constant k) = false
is_untested_operand a (Register r) = is_untested (kind_of a r)

-- why a comparison that is not defined is refused
abbrev pub comparison_refusal : State → Cond → Refusal
comparison_refusal a cond =
    if is_untested (kind_of a cond.register) || is_untested_operand a cond.operand
    then NullNotTested else Comparison
