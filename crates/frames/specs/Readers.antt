-- What a caller sees of a frame reader.
use Rattle.std.specs.Prelude.{ℕ}
use Rattle.isa_model.specs.declared.streams.Finish.{Finish}
use Rattle.isa_model.specs.declared.versions.Version.{Version}

-- a reader's position: before the magic; before a record of a stream of this version, with this
-- number and offset; or after all that it will read of a stream of this version (version 1 if no
-- magic could be read)
pub data Position : Type 0 where
  Fresh : Position
  At : Version → ℕ → ℕ → Position
  Done : Version → Finish → Position

-- its source, and its position in the stream
pub record ReaderState (R : Type 0) : Type 0 where
  pub source : R
  pub position : Position
