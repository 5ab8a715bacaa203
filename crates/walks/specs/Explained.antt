-- What is known where a program is refused.
use Rattle.std.specs.Prelude.{◌≡◌, ℕ, ◌+◌, ◌-◌, ◌==◌, suc, List, [], ◌∷◌, ◌++◌, drop, length, Option, Some, None, if◌then◌else◌}
use Rattle.isa_model.specs.declared.instructions.Insn.{Insn}
use Rattle.isa_model.specs.Code.Instructions.{Program, fetch, slots_filled}
use Rattle.stack_state.specs.declared.states.State.{State}
use Rattle.stack_state.specs.Starts.{start}
use Rattle.walks.specs.Forgetting.{Precision, Exact, Forgets}
use Rattle.walks.specs.Refused.{StopsAt, StopsIn, precision_of}
use Rattle.walks.specs.Walks.{StepsTo, HasSteps}
use Rattle.walks.specs.declared.refusals.Refusal.{Refusal}
use Rattle.walks.specs.declared.explained.Jump.{Jump}
use Rattle.walks.specs.declared.explained.Explanation.{Explanation}
use Rattle.walks.specs.declared.explained.TheConstants.{MOST_JUMPS}

-- the jump of a step, if it does not go to the next instruction
abbrev pub jump_of : State → Insn → State → List Jump
jump_of a i b =
    if b.slot == a.slot + slots_filled i then [] else record { from = a.slot; to = b.slot } ∷ []

-- a walk from the start reaches the state, and these are all its jumps
pub data ComesBy (how : Precision) (p : Program) : State → List Jump → Type 0 where
  IsStart : (s : State) (jumps : List Jump) → Forgets how p start s → jumps ≡ []
      → ComesBy how p s jumps
  OneMore : (a s : State) (i : Insn) (before jumps : List Jump) → ComesBy how p a before
      → fetch p a.slot ≡ Some i → StepsTo how p a s
      → jumps ≡ before ++ jump_of a i s → ComesBy how p s jumps

-- the last jumps, `count` of them, or all if there are fewer
unfoldable pub last : ℕ → List Jump → List Jump
last count jumps = drop (length jumps - count) jumps

-- a walk from the start reaches the state, and these are its last jumps
pub record IsLed (how : Precision) (p : Program) (s : State) (way : List Jump) : Type 0 where
  pub jumps : List Jump
  pub comes : ComesBy how p s jumps
  pub last_are : way ≡ last MOST_JUMPS jumps

-- if there is a previous turn of the loop, steps lead from its state to this one, at the same slot
abbrev pub IsTurnBefore : Precision → Program → State → Option State → Type 0
IsTurnBefore how p s None = Unit {0}
IsTurnBefore how p s (Some e) = (e.slot ≡ s.slot) × ((more : ℕ) × HasSteps how p (suc more) e s)

-- a walk from the start reaches the state, and these are the slots of its states, the first one
-- first
pub data ComesThrough (how : Precision) (p : Program) : State → List ℕ → Type 0 where
  AtStart : (s : State) (slots : List ℕ) → Forgets how p start s → slots ≡ s.slot ∷ []
      → ComesThrough how p s slots
  AfterOne : (a s : State) (before slots : List ℕ) → ComesThrough how p a before → StepsTo how p a s
      → slots ≡ before ++ s.slot ∷ [] → ComesThrough how p s slots

-- the program gets this refusal at the slot; x has the abstract state there, that of the previous
-- turn of the loop, the last jumps of a walk to it, and the slots of all states of a walk to it
pub record Explains (p : Program) (e : Refusal) (slot : ℕ) (x : Explanation) : Type 0 where
  pub refused : StopsAt Exact p e slot
  pub led : IsLed (precision_of e) p x.state x.way.items
  pub turn : IsTurnBefore (precision_of e) p x.state x.earlier
  pub through : ComesThrough (precision_of e) p x.state x.slots.items
  pub at : x.state.slot ≡ slot
  pub stops : StopsIn p x.state e
