-- What a machine keeps between runs.
use Rattle.std.specs.Prelude.{◌≡◌, ℕ, ◌≤◌, [], length, vec_capacity}
use Rattle.word_machine.specs.Addresses.{frames_size}
use Rattle.isa_model.specs.Code.Limits.{max_maps, max_call_frames}
use Rattle.isa_model.specs.Code.Instructions.{Program}
use Rattle.isa_model.specs.Code.Versions.{version_number}
use Rattle.maps.specs.Maps.{rows_of, contents_of}
use Rattle.word_machine.specs.declared.memory.Memory.{Memory}
use Rattle.machine.specs.Running.{RunsWithinBound}

-- its runs exit; each map has addresses; the block of call frames has its full size; there is no
-- caller, and room for the callers of a run
pub record IsReady (p : Program) (bound : ℕ) (memory : Memory) : Type 0 where
  pub running : RunsWithinBound
      (record { program = p; bound = bound; contents = contents_of memory.maps })
  pub few : length p.maps ≤ max_maps
  pub rows : rows_of memory.maps ≡ p.maps
  pub whole : length memory.frames.items ≡ frames_size
  pub outer : memory.saved.items ≡ []
  pub capacity : vec_capacity memory.saved ≡ max_call_frames

-- it is ready, and the number beside its program is that of the program's version
pub record IsVersioned (p : Program) (bound version : ℕ) (memory : Memory) : Type 0 where
  pub ready : IsReady p bound memory
  pub version_is : version ≡ version_number p.version
