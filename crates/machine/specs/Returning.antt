-- Whole runs from the start: the run of the words ends, and what it leaves is the outcome.
use Rattle.std.proofs.Common.{◌≡◌, ℕ, ◌≤◌, List, length}
use Rattle.std.specs.Prelude.{All}
use Rattle.word_machine.specs.Addresses.{frames_size}
use Rattle.isa_model.specs.Code.Limits.{max_maps}
use Rattle.isa_model.specs.declared.frames.FrameHead.{FrameHead}
use Rattle.isa_model.specs.Code.Instructions.{Program}
use Rattle.isa_model.specs.Machine.MachineStates.{IsProgram, IsClock, IsGiven}
use Rattle.isa_model.specs.Running.Runs.{Outcome, HasOutcome}
use Rattle.isa_model.specs.Running.Outcomes.{StartsEnd}
use Rattle.maps.specs.Maps.{MapState, IsMap, rows_of, contents_of}
use Rattle.word_machine.specs.Words.{Words}

-- ---- whole runs

-- what a run is given: a program all of whose runs end within n steps, with no more maps than
-- `max_maps`
pub record IsStart (p : Program) (clock : ℕ → ℕ) (n : ℕ) (head : FrameHead) (packet frames : List ℕ)
    (maps : List MapState) : Type 0 where
  pub is_program : IsProgram p
  pub ends : StartsEnd p n
  pub answers : IsClock clock
  pub given : IsGiven p head packet (contents_of maps)
  pub few : length p.maps ≤ max_maps
  pub whole : length frames ≡ frames_size
  pub are_maps : All IsMap maps
  pub rows : rows_of maps ≡ p.maps

-- the number, the steps and what is left are those of the run's outcome, which has at most n steps;
-- the first call frame is the only one again, and the maps are still those of the rows
pub record ReturnsAsModel (p : Program) (clock : ℕ → ℕ) (n : ℕ) (head : FrameHead) (packet : List ℕ)
    (maps : List MapState) (number steps : ℕ) (v : Words) : Type 0 where
  pub outcome : Outcome
  pub found : HasOutcome p head packet (contents_of maps) clock outcome
  pub few : outcome.steps ≤ n
  pub number_is : number ≡ outcome.number
  pub steps_are : steps ≡ outcome.steps
  pub packet_is : v.packet ≡ outcome.packet
  pub contents_are : contents_of v.maps ≡ outcome.contents
  pub clock_calls_are : v.clock_calls ≡ outcome.clock_calls
  pub whole : length v.frames ≡ frames_size
  pub back : length v.saved ≡ 0
  pub rows : rows_of v.maps ≡ p.maps
