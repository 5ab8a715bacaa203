-- What the program does for its arguments, and what standard error gets.
use Rattle.std.specs.Prelude.{◌≡◌, ◌<◌, ℕ, List, ◌++◌, Option, Some, ◌⊎◌}
use Rattle.exact_io.specs.declared.buffering.PromptWriter.{PromptWriter}
use Rattle.exact_io.specs.Waiting.{held}
use Rattle.isa_model.specs.declared.instructions.Insn.{Insn}
use Rattle.isa_model.specs.declared.streams.Fault.{Fault}
use Rattle.isa_model.specs.{Program}
use Rattle.assembler.specs.declared.errors.AsmError.{AsmError}
use Rattle.commands.specs.declared.texts.KeptText.{KeptText}
use Rattle.commands.specs.Texts.{ShowsError}
use Rattle.walks.specs.declared.refusals.Refusal.{Refusal}
use Rattle.rechecking.specs.declared.errors.TableError.{TableError}
use Rattle.explanations.specs.Entries.{IsEntryReason}
use Rattle.words.specs.declared.tasks.WordsError.{WordsError}
use Rattle.words.specs.Requests.{TaskRequest, RunFiles, TableFiles, Run, Trace, Prove}
use Rattle.host.specs.declared.invalid.InvalidFrame.{InvalidFrame}
use Rattle.host.specs.Stops.{Noted}
use Rattle.words.specs.Asked.{asked}
use Rattle.commands.specs.declared.outcomes.TaskOutcome.{TaskOutcome}
use Rattle.commands.specs.declared.endings.Ending.{Ending}
use Rattle.messages.specs.declared.rejections.Rejection.{Rejection}
use Rattle.messages.specs.declared.rejections.Rejection.TheVariants as rejection
use Rattle.messages.specs.declared.forms.FileForm.{FileForm}
use Rattle.messages.specs.Faults.{fault_lines}
use Rattle.messages.specs.Messages.{rejection_text, code_line}
use Rattle.messages.specs.Reasons.{IsReason}
use Rattle.commands.specs.Statuses.{IsWordsEnd, message_of, status_of}
use Rattle.commands.specs.Saying.{AppendsPart, LacksMemory}
use Rattle.commands.specs.Known.{Plainly, told_of}
use Rattle.commands.specs.Flushing.{Flushes}
use Rattle.messages.specs.InvalidRuns.{invalid_lines}
use Rattle.messages.specs.Stopped.{stop_lines}
use Rattle.xdpvm.specs.declared.proving.TheConstants.{LARGE}
use Rattle.proof_table.specs.Writing.{IsTableSize}
use Rattle.xdpvm.specs.Proving.{size_text}
use Rattle.xdpvm.specs.Serving.{ServesTold}

-- The request was served, with some ending; then standard output was flushed. If only the
-- flush failed, the program ends with that failure.
pub record ServesWhole {W : Type 0} (contents : W → Option (List ℕ)) (request : Option TaskRequest)
    (old new : PromptWriter W) (told_old told_new : Option (List ℕ)) (result : Ending) : Type 0
  where
    pub given : PromptWriter W
    pub ended : Ending
    pub serves : ServesTold request (held contents old) (held contents given) told_old told_new
        ended
    pub hands_on : Flushes contents given new ended result

-- the program does what the arguments ask for; or memory ran out before that was known
abbrev pub Executes : {W : Type 0} → (W → Option (List ℕ)) → List (List ℕ) → PromptWriter W
    → PromptWriter W → Option (List ℕ) → Option (List ℕ) → Ending → Type 0
Executes contents words old new told_old told_new result =
    (Plainly (LacksMemory (held contents old) (held contents new)) result × (told_new ≡ told_old))
    ⊎ ServesWhole contents (asked words) old new told_old told_new result

-- the program does what the arguments ask for, returns the status of how that ended, and writes its
-- message to standard error, behind what it got before
abbrev pub ExecutesWords : {W : Type 0} → (W → Option (List ℕ)) → List (List ℕ) → PromptWriter W
    → PromptWriter W → Option (List ℕ) → Option (List ℕ) → ℕ → Type 0
ExecutesWords contents words old new before after status =
    (e : Ending) × (told : Option (List ℕ)) × (status ≡ status_of e.outcome)
    × Executes contents words old new before told e × AppendsPart told after (told_of e)

-- the arguments could not be read: standard error got why, or a beginning of that, and nothing is
-- done
abbrev pub TellsWordsError : {W : Type 0} → WordsError → PromptWriter W → PromptWriter W
    → Option (List ℕ) → Option (List ℕ) → ℕ → Type 0
TellsWordsError error old new before after status =
    (o : TaskOutcome) × IsWordsEnd error o × (status ≡ status_of o) × (new ≡ old)
    × AppendsPart before after (message_of o)

-- the arguments ask for a proof table, and standard error got how many bytes a large table of some
-- program has, or a beginning of that
pub record TellsSize (words : List (List ℕ)) (old new : Option (List ℕ)) : Type 0 where
  pub files : TableFiles
  pub is_asked : asked words ≡ Some (Prove files)
  pub program : Program
  pub size : ℕ
  pub is_size : IsTableSize program size
  pub large : LARGE < size
  pub said : AppendsPart old new (size_text size)

-- what standard error got before the message: nothing, unless a large proof table was asked for
abbrev pub TellsBefore : List (List ℕ) → Option (List ℕ) → Option (List ℕ) → Type 0
TellsBefore words old new = (new ≡ old) ⊎ TellsSize words old new

-- the fact holds of what standard error got behind that
abbrev pub TellsBehind : List (List ℕ) → (Option (List ℕ) → Option (List ℕ) → Type 0)
    → Option (List ℕ) → Option (List ℕ) → Type 0
TellsBehind words Tells old new =
    (told : Option (List ℕ)) × TellsBefore words old told × Tells told new

-- standard error got why something is refused, and its code, or a beginning of that
abbrev pub TellsRejection : Option (List ℕ) → Option (List ℕ) → Type 0
TellsRejection old new =
    (rejection : Rejection) × AppendsPart old new (rejection_text rejection ++ code_line rejection)

-- a program is refused, and standard error got why, then what is known of that refusal, and its
-- code; or a beginning of this text
pub record TellsKnown (old new : Option (List ℕ)) : Type 0 where
  pub program : Program
  pub refusal : Refusal
  pub slot : ℕ
  pub insn : Option Insn
  pub why : List ℕ
  pub known : IsReason program refusal slot why
  pub said : AppendsPart old new
      ((rejection_text (rejection.Program refusal slot insn) ++ why)
      ++ code_line (rejection.Program refusal slot insn))

-- a table is refused, and standard error got why, then what is known of the entry whose step was
-- tested, and its code; or a beginning of this text
pub record TellsEntryKnown (old new : Option (List ℕ)) : Type 0 where
  pub program : Program
  pub bytes : List ℕ
  pub error : TableError
  pub slot : ℕ
  pub insn : Insn
  pub why : List ℕ
  pub known : IsEntryReason program bytes error slot insn why
  pub said : AppendsPart old new
      ((rejection_text (rejection.Table error (Some (slot, insn))) ++ why)
      ++ code_line (rejection.Table error (Some (slot, insn))))

-- a text is refused, and standard error got why, then its line and a hint, and its code; or a
-- beginning of these lines
pub record TellsShown (old new : Option (List ℕ)) : Type 0 where
  pub source : KeptText
  pub error : AsmError
  pub why : List ℕ
  pub known : ShowsError source error why
  pub said : AppendsPart old new
      ((rejection_text (rejection.Text error) ++ why) ++ code_line (rejection.Text error))

-- standard error got why something is refused, with what is known of it, or a beginning of that
abbrev pub IsTold : Option (List ℕ) → Option (List ℕ) → Type 0
IsTold old new =
    TellsRejection old new ⊎ (TellsKnown old new ⊎ (TellsEntryKnown old new ⊎ TellsShown old new))

-- standard error got why a frame stream ended early, and after a trace where runs stopped that
-- ended without an action, after a run the first that ended with INVALID, and how many did; or a
-- beginning of this text
abbrev pub TellsFault : Option (List ℕ) → Option (List ℕ) → Type 0
TellsFault old new =
    (fault : Fault) × (form : FileForm)
    × (AppendsPart old new (fault_lines fault form)
    ⊎ (((noted : Noted) × AppendsPart old new (fault_lines fault form ++ stop_lines noted))
    ⊎ ((first : InvalidFrame) × (count : ℕ)
    × AppendsPart old new (fault_lines fault form ++ invalid_lines first count))))

-- the arguments ask for a trace, and standard error got where runs stopped that ended without an
-- action, or a beginning of this text
pub record TellsTrace (words : List (List ℕ)) (old new : Option (List ℕ)) : Type 0 where
  pub files : RunFiles
  pub limit : ℕ
  pub is_asked : asked words ≡ Some (Trace files limit)
  pub noted : Noted
  pub said : AppendsPart old new (stop_lines noted)

-- the arguments ask for a run, and standard error got the first frame whose run ended with INVALID,
-- and how many did, or a beginning of this text
pub record TellsRun (words : List (List ℕ)) (old new : Option (List ℕ)) : Type 0 where
  pub files : RunFiles
  pub table : Option (List ℕ)
  pub is_asked : asked words ≡ Some (Run files table)
  pub first : InvalidFrame
  pub count : ℕ
  pub said : AppendsPart old new (invalid_lines first count)

-- after a task that was done standard error has got no message, unless the task was a trace or a
-- run
abbrev pub TellsDone : List (List ℕ) → Option (List ℕ) → Option (List ℕ) → Type 0
TellsDone words old new = (new ≡ old) ⊎ (TellsTrace words old new ⊎ TellsRun words old new)
