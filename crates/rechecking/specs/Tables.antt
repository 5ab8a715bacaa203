-- Closed tables: tables of abstract states that show by themselves that every run of a program
-- ends.
use Rattle.std.specs.Prelude.{◌≡◌, ℕ, ◌<◌, ◌≤◌, List, Contains, Option, Some}
use Rattle.isa_model.specs.declared.frames.FrameHead.{FrameHead}
use Rattle.isa_model.specs.Code.Instructions.{Program}
use Rattle.isa_model.specs.Machine.States.{KeyValues}
use Rattle.isa_model.specs.Machine.States as Machine
use Rattle.isa_model.specs.Machine.Steps.{step}
use Rattle.isa_model.specs.Machine.MachineStates.{IsClock, IsGiven}
use Rattle.isa_model.specs.Running.Runs.{start_state}
use Rattle.isa_model.specs.Running.Ends.{After}
use Rattle.stack_state.specs.declared.states.State.{State}
use Rattle.stack_state.specs.Meaning.{Means}
use Rattle.isa_model.specs.declared.limits.TheConstants.{MAX_STEPS}
use Rattle.table_entries.specs.Entries.{Entry}

-- the entries by their indexes; None past the end of a table
abbrev pub EntryAt : Type 0
EntryAt = ℕ → Option Entry

-- the machine state is a member of a named entry's state, and that entry has a smaller number
pub record EntersSmaller (p : Program) (t : EntryAt) (e : Entry) (s : Machine.State) : Type 0 where
  pub index : ℕ
  pub named : Contains e.successors index
  pub entry : Entry
  pub there : t index ≡ Some entry
  pub smaller : entry.number < e.number
  pub member : Means p entry.state s

-- no member traps at its next step, and each that goes on enters a named entry of a smaller number
pub record IsClosedEntry (p : Program) (t : EntryAt) (e : Entry) : Type 0 where
  pub some : 1 ≤ e.number
  pub most : e.number ≤ MAX_STEPS
  pub steps : (clock : ℕ → ℕ) → IsClock clock → (s : Machine.State) → Means p e.state s
      → After (EntersSmaller p t e) (step p clock s)

-- every state in which a run begins is a member of the abstract state
abbrev pub MeansStarts : Program → State → Type 0
MeansStarts p a = (head : FrameHead) (packet : List ℕ) (contents : List KeyValues)
    → IsGiven p head packet contents → Means p a (start_state head packet contents)

-- a closed table
pub record IsClosed (p : Program) (t : EntryAt) : Type 0 where
  pub first : Entry
  pub at_first : t 0 ≡ Some first
  pub starts : MeansStarts p first.state
  pub each : (k : ℕ) (e : Entry) → t k ≡ Some e → IsClosedEntry p t e
