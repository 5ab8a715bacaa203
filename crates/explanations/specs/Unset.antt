-- What left a register unset, by the slots of the states on a path to where it is read, the first
-- one first. RFC 9669, section 4.3: calls leave r1 to r5 unset.
use Rattle.std.specs.Prelude.{ℕ, zero, suc, ◌+◌, ◌-◌, ◌==◌, List, [], ◌++◌, length, slice_index, Option, Some, None, Bool, true, false, codes, decimal, if◌then◌else◌}
use Rattle.std.specs.List.{flat_map}
use Rattle.isa_model.specs.declared.registers.Reg.{Reg}
use Rattle.isa_model.specs.declared.registers.Reg.TheVariants.{R1, R2, R3, R4, R5}
use Rattle.isa_model.specs.declared.instructions.Insn.{Insn}
use Rattle.isa_model.specs.declared.instructions.Insn.TheVariants.{CallHelper, CallLocal, Exit}
use Rattle.isa_model.specs.Code.Registers.{reg_number}
use Rattle.isa_model.specs.Code.Instructions.{Program, fetch, writes}
use Rattle.reg_state.specs.declared.kinds.Kind.{Kind}
use Rattle.reg_state.specs.declared.kinds.Kind.TheVariants.{Unset}
use Rattle.stack_state.specs.declared.states.State.{State}
use Rattle.stack_state.specs.Places.{kind_of}
use Rattle.transfer.specs.declared.refusals.Refusal.TheVariants.{UnsetRegister}
use Rattle.walks.specs.declared.refusals.Refusal.{Refusal}
use Rattle.walks.specs.declared.refusals.Refusal.TheVariants.{Step}
use Rattle.explanations.specs.declared.unset.Cause.{Cause}
use Rattle.explanations.specs.declared.unset.Cause.TheVariants as cause
use Rattle.explanations.specs.Lines.{concerned}

-- ---- causes

-- whether a call leaves the register unset, and a function gets it
abbrev pub is_argument : Reg → Bool
is_argument R1 = true
is_argument R2 = true
is_argument R3 = true
is_argument R4 = true
is_argument R5 = true
is_argument r = false

abbrev pub is_written : Option Reg → Reg → Bool
is_written None r = false
is_written (Some d) r = reg_number d == reg_number r

-- what is known of a register after a step from one slot to another: an exit of a function goes
-- behind its call
abbrev pub after_step : Reg → Option Insn → (from to : ℕ) → Option Cause → Option Cause
after_step r (Some (CallHelper number)) from to before =
    if is_argument r then Some (cause.Called from) else before
after_step r (Some (CallLocal by)) from to before =
    if is_argument r then before else Some (cause.Began from)
after_step r (Some Exit) from to before =
    if is_argument r then Some (cause.Called (to - 1)) else None
after_step r (Some i) from to before =
    if is_written (writes i) r then Some (cause.Set from) else before
after_step r None from to before = before

-- the last step that set the register or left it unset, of this count of steps
abbrev pub cause_of : Program → Reg → List ℕ → ℕ → Option Cause
cause_of p r slots zero = None
cause_of p r slots (suc n) =
    after_step r (fetch p (slice_index slots n)) (slice_index slots n)
    (slice_index slots (n + 1)) (cause_of p r slots n)

-- ---- lines

-- what left it so, and what helps; a register that was set is unset only after a delete, which
-- forgets pointers to values
abbrev pub cause_line : ℕ → Option Cause → List ℕ
cause_line register (Some (cause.Called slot)) =
    codes "r" ++ (decimal register ++ (codes " is unset since the call at slot "
    ++ (decimal slot ++ codes
    ": every call leaves r1 to r5 unset; set it again, or keep its value in r6 to r9\n")))
cause_line register (Some (cause.Began slot)) =
    codes "r" ++ (decimal register ++ (codes " is unset since the call at slot "
    ++ (decimal slot ++ codes
    ": a function gets only r1 to r5; pass its value in one of them\n")))
cause_line register (Some (cause.Set slot)) =
    codes "r" ++ (decimal register ++ (codes " was set at slot " ++ (decimal slot ++ codes
    ", and a later delete (call 3) unset all pointers to values of its map: look the key up again\n")))
cause_line register None =
    codes "set r" ++ (decimal register ++ codes " on every path that leads here\n")

abbrev pub line_by : Kind → ℕ → Option Cause → List ℕ
line_by Unset register found = cause_line register found
line_by k register found = []

abbrev pub unset_line : Program → List ℕ → State → Reg → List ℕ
unset_line p slots a r =
    line_by (kind_of a r) (reg_number r) (cause_of p r slots (length slots - 1))

-- of each register that the instruction reads and that is unset, what left it so, and what helps
abbrev pub unset_lines : Program → List ℕ → State → Insn → Refusal → List ℕ
unset_lines p slots a i (Step UnsetRegister) = flat_map (unset_line p slots a) (concerned i)
unset_lines p slots a i e = []
