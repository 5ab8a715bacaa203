-- What a refusal says of a program.
use Rattle.std.specs.Prelude.{◌≡◌, ℕ, ◌+◌, Some}
use Rattle.isa_model.specs.declared.instructions.Insn.{Insn}
use Rattle.isa_model.specs.Code.Instructions.{Program, fetch}
use Rattle.stack_state.specs.Starts.{start}
use Rattle.control_flow.specs.Flows.{IsFlow}
use Rattle.control_flow.specs.Flows as flow
use Rattle.stack_state.specs.declared.states.State.{State}
use Rattle.transfer.specs.Exact.{RefusesStep}
use Rattle.walks.specs.Forgetting.{Precision, Exact, Coarse, Forgets}
use Rattle.walks.specs.Walks.{IsReached, IsStuck, ComesBack}
use Rattle.walks.specs.Counts.{Takes}
use Rattle.isa_model.specs.declared.limits.TheConstants.{MAX_EXPLORED}
use Rattle.walks.specs.declared.refusals.Refusal.{Refusal}
use Rattle.walks.specs.declared.refusals.Refusal.TheVariants.{Flow, Step, Repeats, TooLong, Memory}

-- at least this many instructions are explored from the state in which a path begins
abbrev pub StartTakes : Program → ℕ → Type 0
StartTakes p n = (first : State) × Forgets Coarse p start first × Takes p first n

-- the walks that a refusal is about: those to the limit of explored instructions may be coarse
abbrev pub precision_of : Refusal → Precision
precision_of TooLong = Coarse
precision_of e = Exact

-- where the search stops with a refusal; with `TooLong`, one instruction after the most that are
-- explored
abbrev pub StopsAt : Precision → Program → Refusal → ℕ → Type 0
StopsAt how p (Flow e) slot = ⊥
StopsAt how p (Step e) slot = IsStuck how p e slot
StopsAt how p Repeats slot = ComesBack how p slot
StopsAt how p TooLong slot = IsReached Coarse p slot × StartTakes p (MAX_EXPLORED + 1)
StopsAt how p Memory slot = slot ≡ 0

-- why the search stops in a state: its step is refused, the path was in one before where each covers the
-- other, or the limit of explored instructions is reached
abbrev pub StopsIn : Program → State → Refusal → Type 0
StopsIn p s (Flow e) = ⊥
StopsIn p s (Step e) = (i : Insn) × (fetch p s.slot ≡ Some i) × RefusesStep p s i e
StopsIn p s Repeats = Unit {0}
StopsIn p s TooLong = Unit {0}
StopsIn p s Memory = ⊥

-- control flow comes first, and all other refusals are of programs whose control flow is good
abbrev pub IsRefused : Program → Refusal → ℕ → Type 0
IsRefused p (Flow e) slot = flow.IsRefusal p e slot
IsRefused p e slot = IsFlow p × StopsAt Exact p e slot
