-- Runs of the machine on words, from words that represent a machine state: they end, and lead where
-- the run from that state does. A step of the machine on words is called a move.
use Rattle.std.specs.Prelude.{ℕ, List}
use Rattle.isa_model.specs.declared.frames.FrameHead.{FrameHead}
use Rattle.isa_model.specs.Code.Instructions.{Program}
use Rattle.isa_model.specs.Machine.States.{State}
use Rattle.isa_model.specs.Machine.MachineStates.{IsProgram, IsClock, IsState}
use Rattle.isa_model.specs.Running.Ends.{Ends as ModelEnds}
use Rattle.word_machine.specs.Words.{Words}
use Rattle.word_machine.specs.Runs.{EndsSafely, WordsReach, Exits}
use Rattle.machine.specs.Related.{Layout, Related}
use Rattle.maps.specs.Maps.{MapState}
use Rattle.machine.specs.Tracking.{Tracks, Finishes}
use Rattle.machine.specs.Starting.{start_of}
use Rattle.machine.specs.Returning.{IsStart, ReturnsAsModel}

-- a run that ends in the model within n steps ends in words within n moves
abbrev pub EndsInWords : Type 0
EndsInWords = (p : Program) (clock : ℕ → ℕ) → IsProgram p → IsClock clock
    → (n : ℕ) (a : Layout) (s : State) (w : Words)
    → Related p a s w → IsState p s → ModelEnds p clock s n → EndsSafely p clock w n

-- where moves lead, steps lead to a related state
abbrev pub MovesAreSteps : Type 0
MovesAreSteps = (p : Program) (clock : ℕ → ℕ) → IsProgram p → IsClock clock
    → (k n : ℕ) (a : Layout) (s : State) (w v : Words)
    → Related p a s w → IsState p s → ModelEnds p clock s n → WordsReach p clock w k v
    → Tracks p clock s n k v

-- an exit of words is the model's, with the same number after the same count of steps
abbrev pub ExitsAgree : Type 0
ExitsAgree = (p : Program) (clock : ℕ → ℕ) → IsProgram p → IsClock clock
    → (n : ℕ) (a : Layout) (s : State) (w v : Words) (number steps : ℕ)
    → Related p a s w → IsState p s → ModelEnds p clock s n → Exits p clock w number steps v
    → Finishes p clock s n number steps v

-- a run of words from a start ends within the program's bound
abbrev pub StartsEndInWords : Type 0
StartsEndInWords =
    (p : Program) (clock : ℕ → ℕ) (n : ℕ) (head : FrameHead) (packet frames : List ℕ)
    (maps : List MapState)
    → IsStart p clock n head packet frames maps
    → EndsSafely p clock (start_of head packet frames maps) n

-- where a run of words from a start exits, the answer and what is left are those of the outcome
abbrev pub ExitsAreOutcomes : Type 0
ExitsAreOutcomes =
    (p : Program) (clock : ℕ → ℕ) (n : ℕ) (head : FrameHead) (packet frames : List ℕ)
    (maps : List MapState)
    → IsStart p clock n head packet frames maps → (number steps : ℕ) (v : Words)
    → Exits p clock (start_of head packet frames maps) number steps v
    → ReturnsAsModel p clock n head packet maps number steps v
