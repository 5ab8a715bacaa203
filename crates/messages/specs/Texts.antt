-- The messages about refusals as a caller's buffer gets them: the line that the command prints, a
-- sentence, the position, and what is known there.
use Rattle.std.specs.Prelude.{◌≡◌, ℕ, List, [], ◌++◌, None, codes, ◌⊎◌}
use Rattle.isa_model.specs.declared.instructions.Insn.{Insn}
use Rattle.isa_model.specs.Code.Instructions.{Program, fetch}
use Rattle.image.specs.declared.errors.ImageError.{ImageError}
use Rattle.walks.specs.declared.refusals.Refusal.{Refusal}
use Rattle.walks.specs.declared.refusals.Refusal.TheVariants as program_refusal
use Rattle.assembler.specs.declared.errors.AsmError.{AsmError}
use Rattle.transfer.specs.Messages as transfer
use Rattle.table_entries.specs.declared.refusals.TableRefusal.TheVariants as table_refusal
use Rattle.rechecking.specs.declared.errors.TableError.{TableError}
use Rattle.rechecking.specs.declared.errors.TableError.TheVariants as table_error
use Rattle.rechecking.specs.Messages as rechecking
use Rattle.explanations.specs.Entries.{IsEntryReason}
use Rattle.messages.specs.declared.rejections.Rejection.TheVariants as rejection
use Rattle.messages.specs.Lines.{image_line, verdict_line, table_line, text_line}
use Rattle.messages.specs.Messages.{entry_position, insn_position, rejection_text}
use Rattle.messages.specs.Reasons.{IsReason}

-- the message for bytes that are no image; it does not say what they look like
abbrev pub image_text : ImageError → List ℕ
image_text error = image_line error ++ rejection_text (rejection.Image error None)

-- the message for a program text that is no program
abbrev pub source_text : AsmError → List ℕ
source_text error = text_line error ++ rejection_text (rejection.Text error)

-- a program is refused at a slot, at which an instruction begins or none
abbrev pub program_front : Program → Refusal → ℕ → List ℕ
program_front p refusal slot =
    verdict_line refusal slot ++ rejection_text (rejection.Program refusal slot (fetch p slot))

-- the same with what is known there, if that was looked for
pub record IsProgramText (p : Program) (refusal : Refusal) (slot : ℕ) (text : List ℕ) : Type 0 where
  pub known : List ℕ
  pub is_known : (known ≡ []) ⊎ IsReason p refusal slot known
  pub text_is : text ≡ program_front p refusal slot ++ known

-- the entry at which a table is refused, if it is at one
abbrev pub entry_line : TableError → List ℕ
entry_line (table_error.Bytes (table_refusal.Entry index)) = entry_position index
entry_line (table_error.Step index refusal) = entry_position index
entry_line (table_error.Successor index) = entry_position index
entry_line error = []

-- a table is refused, at an entry or as a whole, or the control flow of its program at a slot
abbrev pub table_front : Program → TableError → List ℕ
table_front p (table_error.Flow error slot) = program_front p (program_refusal.Flow error) slot
table_front p error =
    table_line error ++ ((rechecking.sentence_of error ++ codes "\n") ++ entry_line error)

-- why the step of an entry is refused
abbrev pub step_sentence : TableError → List ℕ
step_sentence (table_error.Step index refusal) = transfer.sentence_of refusal ++ codes "\n"
step_sentence error = []

-- what is known of the entry, if that was looked for: its slot with the instruction there, why its
-- step is refused, and what concerns the instruction or how the successors differ
abbrev pub IsEntryText : Program → List ℕ → TableError → List ℕ → Type 0
IsEntryText p bytes error text =
    (text ≡ step_sentence error)
    ⊎ ((slot : ℕ) × (insn : Insn) × (known : List ℕ) × IsEntryReason p bytes error slot insn known
    × (text ≡ insn_position slot insn ++ (step_sentence error ++ known)))

-- the same after the front
pub record IsTableText (p : Program) (bytes : List ℕ) (error : TableError)
    (text : List ℕ) : Type 0 where
  pub entry_text : List ℕ
  pub is_entry_text : IsEntryText p bytes error entry_text
  pub text_is : text ≡ table_front p error ++ entry_text
