-- What is known of a refused text, program or proof table. The message says it after the sentence
-- and the position; and the whole message.
use Rattle.std.specs.Prelude.{◌≡◌, ℕ, List, ◌++◌, Option, Some, None, String, IfSome, IsSomeAnd, option_map}
use Rattle.std.specs.declared.alloc.Global.{Global}
use Rattle.std.specs.String.{string_bytes}
use Rattle.assembler.specs.declared.errors.AsmError.{AsmError}
use Rattle.assembler.specs.Shown.{shown}
use Rattle.commands.specs.declared.texts.KeptText.{KeptText}
use Rattle.commands.specs.Texts.{ShowsError}
use Rattle.commands.specs.declared.outcomes.TaskOutcome.{TaskOutcome}
use Rattle.commands.specs.declared.outcomes.TaskOutcome.TheVariants.{Refused}
use Rattle.commands.specs.declared.endings.Ending.{Ending}
use Rattle.commands.specs.Statuses.{message_of}
use Rattle.isa_model.specs.declared.instructions.Insn.{Insn}
use Rattle.isa_model.specs.{Program}
use Rattle.explanations.specs.declared.entries.EntryReason.{EntryReason}
use Rattle.explanations.specs.Entries.{IsEntryReason}
use Rattle.walks.specs.declared.refusals.Refusal.{Refusal}
use Rattle.messages.specs.declared.rejections.Rejection.TheVariants as rejection
use Rattle.messages.specs.Messages.{code_line}
use Rattle.messages.specs.Reasons.{IsReason}

-- the lines at the end of the message after a task that read this program text: if it was refused,
-- its line with a caret, as far as it was kept, and a hint
abbrev pub TellsText : KeptText → TaskOutcome → Option (String Global) → Type 0
TellsText source (Refused (rejection.Text error)) why =
    IfSome why (λ text. ShowsError source error (string_bytes text))
TellsText source outcome why = why ≡ None

abbrev pub IsKnownOfText : KeptText → Ending → Type 0
IsKnownOfText source ending = TellsText source ending.outcome ending.why

-- the same lines, by the bytes that were kept and the error in them
abbrev pub TellsKept : List ℕ → AsmError → TaskOutcome → Option (String Global) → Type 0
TellsKept bytes e (Refused (rejection.Text error)) why =
    IfSome why (λ text. string_bytes text ≡ shown bytes e)
TellsKept bytes e outcome why = why ≡ None

abbrev pub ShowsKept : List ℕ → AsmError → Ending → Type 0
ShowsKept bytes e ending = TellsKept bytes e ending.outcome ending.why

-- ---- endings

-- the property holds of the task's outcome, and its message has no such lines at its end
abbrev pub Plainly : (TaskOutcome → Type 0) → Ending → Type 0
Plainly P ending = P ending.outcome × (ending.why ≡ None)

-- what standard error gets: the message of the outcome, and then what is known
abbrev pub outcome_text : TaskOutcome → Option (String Global) → List ℕ
outcome_text outcome None = message_of outcome
outcome_text outcome (Some text) = message_of outcome ++ string_bytes text

-- after a refusal the last line names its code
abbrev pub with_code : TaskOutcome → List ℕ → List ℕ
with_code (Refused rejection) text = text ++ code_line rejection
with_code outcome text = text

-- the same for how a task ended
abbrev pub told_of : Ending → List ℕ
told_of ending = with_code ending.outcome (outcome_text ending.outcome ending.why)

-- the lines at the end of the message after a task on this program: there are some only if the
-- program was refused, and they say what is known of the refusal at its slot
abbrev pub Tells : Program → TaskOutcome → Option (String Global) → Type 0
Tells p (Refused (rejection.Program refusal slot insn)) why =
    IfSome why (λ text. IsReason p refusal slot (string_bytes text))
Tells p outcome why = why ≡ None

-- the fact holds of the refusal of a program and its slot, if the task ended with one
abbrev pub IfRefusal : TaskOutcome → (Refusal → ℕ → Type 0) → Type 0
IfRefusal (Refused (rejection.Program refusal slot insn)) fact = fact refusal slot
IfRefusal outcome fact = Unit {0}

abbrev pub IsKnownOfProgram : Program → Ending → Type 0
IsKnownOfProgram p ending = Tells p ending.outcome ending.why

-- the lines at the end of the message after a task on these bytes as a proof table of the program:
-- if the step of an entry was tested, the message may name its slot and its instruction, and the
-- lines say what is known there
abbrev pub TellsTable : Program → List ℕ → TaskOutcome → Option (String Global) → Type 0
TellsTable p bytes (Refused (rejection.Table error (Some (slot, insn)))) why =
    IsSomeAnd why (λ text. IsEntryReason p bytes error slot insn (string_bytes text))
TellsTable p bytes outcome why = why ≡ None

abbrev pub IsKnownOfTable : Program → List ℕ → Ending → Type 0
IsKnownOfTable p bytes ending = TellsTable p bytes ending.outcome ending.why

-- ---- what was found about an entry

-- the slot of its step, and the instruction there
abbrev pub position_found : Option EntryReason → Option (ℕ × Insn)
position_found found = option_map (λ f. (f.slot, f.insn)) found

abbrev pub why_found : Option EntryReason → Option (String Global)
why_found found = option_map (λ f. f.text) found

-- what is known is kept only after a refusal
abbrev pub with_refusal : TaskOutcome → Option (String Global) → Option (String Global)
with_refusal (Refused rejection) why = why
with_refusal outcome why = None
