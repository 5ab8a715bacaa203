-- Program texts of which bytes were dropped that change nothing.
use Rattle.std.specs.Prelude.{◌≡◌, ℕ, List, ◌++◌, Result, Err}
use Rattle.isa_model.specs.Code.Instructions.{Program}
use Rattle.assembler.specs.declared.errors.AsmError.{AsmError}
use Rattle.assembler.specs.Assembling.{assembled}
use Rattle.assembler.specs.Gaps.{all_placed, all_in_place}
use Rattle.assembler.specs.Shown.{shown}
use Rattle.commands.specs.declared.texts.KeptText.{KeptText}

-- what a text spells that goes on with these bytes, or why it spells nothing, at its line and
-- column in the whole text
abbrev pub spelled_with : KeptText → List ℕ → Result Program AsmError
spelled_with text more = all_in_place text.gaps.items (assembled (text.bytes.items ++ more))

abbrev pub spelled : KeptText → Result Program AsmError
spelled text = all_in_place text.gaps.items (assembled text.bytes.items)

-- what is shown of an error in the text: its line, as far as it was kept, and a hint
abbrev pub ShowsError : KeptText → AsmError → List ℕ → Type 0
ShowsError text error line = (e : AsmError) × (assembled text.bytes.items ≡ Err e)
    × (all_placed text.gaps.items e ≡ error) × (line ≡ shown text.bytes.items e)
