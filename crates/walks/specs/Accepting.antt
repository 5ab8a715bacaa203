-- Programs that must be accepted: what they may be refused for, and their bounds.
use Rattle.std.specs.Prelude.{◌≡◌, ◌≤◌, ◌⊎◌, ℕ, length}
use Rattle.isa_model.specs.declared.versions.Version.TheVariants.{Two}
use Rattle.isa_model.specs.Code.Instructions.{Program}
use Rattle.isa_model.specs.MustAccept.Plain.{IsPlain}
use Rattle.isa_model.specs.MustAccept.Determined.{IsDetermined}
use Rattle.isa_model.specs.MustAccept.Guarded.{IsGuarded}
use Rattle.control_flow.specs.declared.errors.FlowError.TheVariants as error
use Rattle.transfer.specs.declared.refusals.Refusal.TheVariants.{NoAction}
use Rattle.walks.specs.declared.refusals.Refusal.{Refusal}
use Rattle.walks.specs.declared.refusals.Refusal.TheVariants.{Flow, Step, Memory}

-- out of memory, in the tests of control flow or later
abbrev pub IsOutOfMemory : Refusal → Type 0
IsOutOfMemory (Flow error.Memory) = Unit {0}
IsOutOfMemory Memory = Unit {0}
IsOutOfMemory e = ⊥

-- a program of version 2 with an exit that is not shown to answer with an action
abbrev pub IsUnanswered : Program → Refusal → Type 0
IsUnanswered p e = (p.version ≡ Two) × (e ≡ Step NoAction)

-- these programs are refused only when memory runs out; those of version 2 whose run is not known
-- also for the actions that they answer with
pub record AcceptsAll (p : Program) (e : Refusal) : Type 0 where
  pub plain : IsPlain p → IsOutOfMemory e ⊎ IsUnanswered p e
  pub determined : (steps : ℕ) → IsDetermined p steps → IsOutOfMemory e
  pub guarded : (len : ℕ) → IsGuarded p len → IsOutOfMemory e ⊎ IsUnanswered p e

-- the bound of a plain or a guarded program is at most its count of slots, and that of a determined
-- one is the count of steps of its run
pub record BoundsAll (p : Program) (bound : ℕ) : Type 0 where
  pub plain : IsPlain p → bound ≤ length p.insns
  pub determined : (steps : ℕ) → IsDetermined p steps → bound ≡ steps
  pub guarded : (len : ℕ) → IsGuarded p len → bound ≤ length p.insns
