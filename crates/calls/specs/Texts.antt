-- What the call returns for a program text.
use Rattle.std.specs.Prelude.{◌≡◌, ◌≢◌, ℕ, List, Ok, Err}
use Rattle.isa_model.specs.Code.Instructions.{Program}
use Rattle.image.specs.Images.{image_bytes}
use Rattle.assembler.specs.declared.errors.AsmError.{AsmError}
use Rattle.assembler.specs.declared.errors.AsmErrorKind.TheVariants as kind
use Rattle.assembler.specs.Assembling.{assembled}
use Rattle.messages.specs.Texts.{source_text}
use Rattle.calls.specs.Crossing.{FillsBuffer}
use Rattle.calls.specs.declared.assembling.Assembled.{Assembled}

-- the program text spells a program, whose image is written to a buffer
abbrev pub FillsAssembledImage : List ℕ → List ℕ → List ℕ → ℕ → Type 0
FillsAssembledImage source old new size =
    (p : Program) × (assembled source ≡ Ok p) × FillsBuffer old new size (image_bytes p)

-- what is returned for one that is accepted: the size of its image, and no line or column
abbrev pub only_size : ℕ → Assembled
only_size size = record { size = size; line = 0; column = 0 }

-- it spells none, and a buffer has the message that says why, at this line and column
abbrev pub FillsTextRefusal : List ℕ → List ℕ → List ℕ → ℕ → ℕ → ℕ → Type 0
FillsTextRefusal source old new size line column =
    (error : AsmError) × (assembled source ≡ Err error) × (error.kind ≢ kind.Memory)
    × (line ≡ error.line) × (column ≡ error.column) × FillsBuffer old new size (source_text error)
