-- Steps that leave the callers of a state as they are: a second successor has the same ones.
use Rattle.std.specs.Prelude.{Bool, true, false, Result, Ok, Err}
use Rattle.isa_model.specs.declared.instructions.Insn.{Insn}
use Rattle.isa_model.specs.declared.instructions.Insn.TheVariants.{Alu, Neg, MovSx, ByteSwap, LoadNumber, LoadMap, LoadMapValue, Load, LoadSx, Jump, JumpLong}
use Rattle.stack_state.specs.declared.states.State.{State}
use Rattle.transfer.specs.declared.Ways.{Ways}
use Rattle.transfer.specs.declared.refusals.Refusal.{Refusal}

-- the form sets a register, or jumps always
abbrev pub keeps_callers : Insn → Bool
keeps_callers (Alu w op d source) = true
keeps_callers (Neg w d) = true
keeps_callers (MovSx e d r) = true
keeps_callers (ByteSwap order span d) = true
keeps_callers (LoadNumber d n) = true
keeps_callers (LoadMap d m) = true
keeps_callers (LoadMapValue d m offset) = true
keeps_callers (Load size d place) = true
keeps_callers (LoadSx size d place) = true
keeps_callers (Jump by) = true
keeps_callers (JumpLong by) = true
keeps_callers i = false

-- the other state, with the callers of the state a if it shares them
abbrev pub beside : Bool → State → State → State
beside true a b = record b { callers = a.callers }
beside false a b = b

-- how many successors there are, or the refusal
abbrev pub ways_in : Result (Ways × Bool) Refusal → Result Ways Refusal
ways_in (Ok left) = Ok left.0
ways_in (Err e) = Err e

abbrev pub shares_in : Result (Ways × Bool) Refusal → Bool
shares_in (Ok left) = left.1
shares_in (Err e) = false

-- the other successor, if there are two
abbrev pub beside_in : Result (Ways × Bool) Refusal → State → State → State
beside_in result a b = beside (shares_in result) a b
