-- Walks through abstract states, an instruction at a time.
use Rattle.std.specs.Prelude.{◌≡◌, ℕ, zero, suc, ◌⊎◌, Some}
use Rattle.isa_model.specs.declared.instructions.Insn.{Insn}
use Rattle.isa_model.specs.Code.Instructions.{Program, fetch}
use Rattle.stack_state.specs.declared.states.State.{State}
use Rattle.stack_state.specs.Meaning.{Covers}
use Rattle.stack_state.specs.Starts.{start}
use Rattle.control_flow.specs.Graph.{BeginsInsn}
use Rattle.control_flow.specs.Flows.{IsJoin}
use Rattle.transfer.specs.declared.Ways.{Ways}
use Rattle.transfer.specs.declared.Ways.TheVariants as ways
use Rattle.transfer.specs.declared.refusals.Refusal.{Refusal}
use Rattle.transfer.specs.Exact.{StepsToWays, RefusesStep}
use Rattle.walks.specs.Forgetting.{Precision, Forgets}

abbrev pub IsAmong : Ways → State → State → State → Type 0
IsAmong ways.None a b s = ⊥
IsAmong ways.One a b s = s ≡ a
IsAmong ways.Two a b s = (s ≡ a) ⊎ (s ≡ b)

-- b is one of a's successors, after what does not matter was forgotten
pub record StepsTo (how : Precision) (p : Program) (a b : State) : Type 0 where
  pub insn : Insn
  pub here : fetch p a.slot ≡ Some insn
  pub taken : Ways
  pub first : State
  pub other : State
  pub makes : StepsToWays p a insn taken first other
  pub next : State
  pub among : IsAmong taken first other next
  pub forgets : Forgets how p next b

-- n steps lead from a to b
unfoldable pub HasSteps : Precision → Program → ℕ → State → State → Type 0
HasSteps how p zero a b = b ≡ a
HasSteps how p (suc n) a b = (c : State) × StepsTo how p a c × HasSteps how p n c b

-- a walk of n steps from the start reaches a state
pub record WalksTo (how : Precision) (p : Program) (n : ℕ) (s : State) : Type 0 where
  pub first : State
  pub starts : Forgets how p start first
  pub leads : HasSteps how p n first s

-- ---- where walks stop

-- some walk from the start reaches a state at this slot, at which an instruction begins
pub record IsReached (how : Precision) (p : Program) (slot : ℕ) : Type 0 where
  pub state : State
  pub steps : ℕ
  pub walk : WalksTo how p steps state
  pub slot_is : slot ≡ state.slot
  pub begins : BeginsInsn p slot

-- some walk from the start reaches a state at this slot, and its step gets this refusal
pub record IsStuck (how : Precision) (p : Program) (e : Refusal) (slot : ℕ) : Type 0 where
  pub state : State
  pub steps : ℕ
  pub walk : WalksTo how p steps state
  pub slot_is : slot ≡ state.slot
  pub begins : BeginsInsn p slot
  pub insn : Insn
  pub here : fetch p state.slot ≡ Some insn
  pub refused : RefusesStep p state insn e

-- some walk from the start reaches this join twice, in two states that cover one another
pub record ComesBack (how : Precision) (p : Program) (slot : ℕ) : Type 0 where
  pub join : IsJoin p slot
  pub first : State
  pub again : State
  pub before : ℕ
  pub between : ℕ
  pub walk : WalksTo how p before first
  pub leads_back : HasSteps how p (suc between) first again
  pub first_slot : first.slot ≡ slot
  pub again_slot : again.slot ≡ slot
  pub covers : Covers p first again
  pub covered : Covers p again first
