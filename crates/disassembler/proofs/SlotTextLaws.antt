-- Laws of the definitions in specs/SlotText.
use Rattle.disassembler.proofs.Common.{◌≡◌, List, [], ◌∷◌, ◌++◌, Option, Some, None, refl, ap, flat_map, line_of, instructions, code_text, slot_text}
use Rattle.isa_model.specs.declared.instructions.Insn.{Insn}

-- the texts of the slots, one after the other, are those of the instructions
pub slot_text-code : (xs : List (Option Insn)) → flat_map slot_text xs ≡ code_text (instructions xs)
slot_text-code [] = refl
slot_text-code (None ∷ xs) = slot_text-code xs
slot_text-code (Some i ∷ xs) = ap (λ l. line_of i ++ l) (slot_text-code xs)
