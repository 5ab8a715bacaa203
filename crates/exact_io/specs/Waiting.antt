-- The bytes of a buffered writer, and whether it has failed.
use Rattle.std.specs.Prelude.{◌≡◌, ℕ, List, Option, Result, Ok, Err}
use Rattle.std.specs.IoError.{error_kind}
use Rattle.std.specs.Io.Buffered.{writer_buffer, writer_inner}
use Rattle.std.specs.Io.KnownBytes.{append_known}
use Rattle.std.specs.declared.io.ErrorKind.{ErrorKind}
use Rattle.std.specs.declared.io.Error.{Error}
use Rattle.exact_io.specs.declared.buffering.PromptWriter.{PromptWriter}

-- the writer behind the buffer
abbrev pub behind : {W : Type 0} → PromptWriter W → W
behind w = writer_inner w.buffered

-- the bytes in the buffer, which are not written yet
abbrev pub waiting : {W : Type 0} → PromptWriter W → List ℕ
waiting w = writer_buffer w.buffered

-- how many more bytes are written through without waiting in the buffer
abbrev pub prompt_left : {W : Type 0} → PromptWriter W → ℕ
prompt_left w = w.prompt

-- why a write or a flush failed, if one did
abbrev pub failure_of : {W : Type 0} → PromptWriter W → Option ErrorKind
failure_of w = w.failure

-- what the inner writer has taken, where that is known, and then the bytes in the buffer
abbrev pub held : {W : Type 0} → (W → Option (List ℕ)) → PromptWriter W → Option (List ℕ)
held contents w = append_known (contents (behind w)) (waiting w)

-- a call failed with an error of this kind
abbrev pub FailsWith : {A : Type 0} → ErrorKind → Result A Error → Type 0
FailsWith kind (Ok a) = ⊥
FailsWith kind (Err error) = error_kind error ≡ kind
