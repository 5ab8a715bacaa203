-- The states in which the steps of a run begin.
use Rattle.std.specs.Prelude.{ℕ, zero, suc, List, [], ◌∷◌, ◌++◌}
use Rattle.isa_model.specs.declared.frames.FrameHead.{FrameHead}
use Rattle.isa_model.specs.Code.Instructions.{Program}
use Rattle.isa_model.specs.Machine.States.{State, KeyValues}
use Rattle.isa_model.specs.Running.Runs.{Progress, GoesOn, Ended, progress, start_state}

-- the state in which the next step of a run begins, if the run goes on
abbrev pub beginning : Progress → List State
beginning (GoesOn s) = s ∷ []
beginning (Ended e s) = []

-- the states in which the first n steps of a run begin, one after another; a step that exits or
-- traps is the last one
unfoldable pub begun_in : Program → (ℕ → ℕ) → ℕ → State → List State
begun_in p clock zero s = []
begun_in p clock (suc n) s = begun_in p clock n s ++ beginning (progress p clock n s)

-- those of a run on a packet frame, within the limit
abbrev pub begun_on : Program → ℕ → (ℕ → ℕ) → FrameHead → List ℕ → List KeyValues → List State
begun_on p limit clock head packet contents =
    begun_in p clock limit (start_state head packet contents)
