-- The text of code by slots.
use Rattle.std.proofs.Common.{ℕ, List, [], ◌++◌, Option, Some, None}
use Rattle.isa_model.specs.declared.instructions.Insn.{Insn}
use Rattle.isa_model.specs.Text.CanonicalText.{line_of, instructions, rows_text, code_text}
use Rattle.isa_model.specs.Code.Instructions.{Program}

-- a second half has no text of its own
abbrev pub slot_text : Option Insn → List ℕ
slot_text None = []
slot_text (Some i) = line_of i

-- the lines of a program after its version line
abbrev pub unversioned_text : Program → List ℕ
unversioned_text p = rows_text p.maps ++ code_text (instructions p.insns)
