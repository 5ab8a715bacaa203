-- What one outcome of a conditional jump's test leaves of an abstract state.
use Rattle.std.specs.Prelude.{◌≢◌, Bool, true, false}
use Rattle.isa_model.specs.declared.registers.Reg.TheVariants.{R10}
use Rattle.isa_model.specs.declared.instructions.Cond.{Cond}
use Rattle.isa_model.specs.declared.instructions.Operand.TheVariants.{Register}
use Rattle.stack_state.specs.declared.states.State.{State}
use Rattle.stack_state.specs.Effects.{map_kinds}
use Rattle.stack_state.specs.Facts.{learned}
use Rattle.branch_refine.specs.Numbers.{with_compared}
use Rattle.branch_refine.specs.declared.outcomes.BranchOutcome.{BranchOutcome}
use Rattle.branch_refine.specs.declared.outcomes.BranchOutcome.TheVariants.{Never, Same, Narrowed, Learned}

-- some member may take this edge
abbrev pub goes : BranchOutcome → Bool
goes Never = false
goes o = true

-- the state narrowed to the members that take this edge; if none does, the state unchanged
abbrev pub left_in : Cond → State → BranchOutcome → State
left_in cond a Never = a
left_in cond a Same = a
left_in cond a (Narrowed x y) = with_compared a cond x y
left_in cond a (Learned fact) = map_kinds (learned fact) a

-- numbers are put into registers that can be written
abbrev pub MayBePut : Cond → BranchOutcome → Type 0
MayBePut cond (Narrowed x y) = (cond.register ≢ R10) × (cond.operand ≢ Register R10)
MayBePut cond o = Unit {0}
