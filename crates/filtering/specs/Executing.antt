-- What the program does for its arguments.
use Rattle.std.specs.Prelude.{◌≡◌, ◌⊎◌, ℕ, Bool, true, false, List, ◌++◌, Option, Some, None, bytes_eq, codes}
use Rattle.std.specs.String.{string_bytes}
use Rattle.exact_io.specs.declared.buffering.PromptWriter.{PromptWriter}
use Rattle.exact_io.specs.Waiting.{held}
use Rattle.words.specs.declared.filter_tasks.FilterWordsError.{FilterWordsError}
use Rattle.words.specs.declared.filter_tasks.FilterWordsError.TheVariants as error
use Rattle.words.specs.declared.tasks.WordsError.{WordsError}
use Rattle.words.specs.declared.tasks.WordsError.TheVariants.{Wrong, NotUnicode, Memory}
use Rattle.words.specs.FilterRequests.{ConvertRequest, FilterRequest, OperatorRequest, Filter, Convert}
use Rattle.words.specs.FilterAsked.{AsksForText, filter_asked}
use Rattle.commands.specs.declared.endings.Ending.{Ending}
use Rattle.commands.specs.declared.outcomes.TaskOutcome.{TaskOutcome}
use Rattle.commands.specs.declared.outcomes.TaskOutcome.TheVariants.{Done, Faulted}
use Rattle.commands.specs.Flushing.{Flushes}
use Rattle.commands.specs.Known.{told_of}
use Rattle.commands.specs.Saying.{AppendsPart, Says}
use Rattle.commands.specs.Statuses.{status_of}
use Rattle.messages.specs.declared.forms.FileForm.{FileForm}
use Rattle.messages.specs.Forms.{stream_line}
use Rattle.isa_model.specs.declared.streams.Fault.TheVariants.{BadMagic}
use Rattle.isa_model.specs.Reporting.Messages.{sentence_of}
use Rattle.filtering.specs.FrameKinds.{kind_of}
use Rattle.filtering.specs.Conversions.{ConvertsTo}
use Rattle.filtering.specs.Files.{FiltersFiles}

-- ---- a run

-- Standard output is said what was done, and then flushed; standard error gets the messages.
pub record SaysOnOutput {W : Type 0} (contents : W → Option (List ℕ)) (request : FilterRequest)
    (old new : PromptWriter W) (before after : Option (List ℕ)) (status : ℕ) : Type 0 where
  pub given : PromptWriter W
  pub ended : Ending
  pub ending : Ending
  pub filters : FiltersFiles request (held contents old) (held contents given) ended
  pub hands_on : Flushes contents given new ended ending
  pub status_is : status ≡ status_of ending.outcome
  pub said : AppendsPart before after (told_of ending)

-- The frames out go to standard output, so that standard error is said what was done, and then the
-- messages.
pub record SaysOnError {W : Type 0} (request : FilterRequest) (old new : PromptWriter W)
    (before after : Option (List ℕ)) (status : ℕ) : Type 0 where
  pub untouched : new ≡ old
  pub between : Option (List ℕ)
  pub ended : Ending
  pub filters : FiltersFiles request before between ended
  pub status_is : status ≡ status_of ended.outcome
  pub said : AppendsPart between after (told_of ended)

abbrev pub FiltersByOutput : {W : Type 0} → Bool → (W → Option (List ℕ)) → FilterRequest
    → PromptWriter W → PromptWriter W → Option (List ℕ) → Option (List ℕ) → ℕ → Type 0
FiltersByOutput true contents request old new before after status =
    SaysOnError request old new before after status
FiltersByOutput false contents request old new before after status =
    SaysOnOutput contents request old new before after status

-- a run as it is asked for, by whether the frames out go to standard output
abbrev pub FiltersWhole : {W : Type 0} → (W → Option (List ℕ)) → FilterRequest → PromptWriter W
    → PromptWriter W → Option (List ℕ) → Option (List ℕ) → ℕ → Type 0
FiltersWhole contents request old new before after status =
    FiltersByOutput (bytes_eq request.files.out (codes "-")) contents request old new before after
    status

-- ---- frames that are written again

abbrev pub usage : List ℕ
usage =
    codes "usage: xdpvm_filter IMAGE FRAMES OUT\n"
    ++ (codes "       xdpvm_filter convert IN OUT\n" ++ codes "       xdpvm_filter show IN\n")

-- the message where nothing says what the frames are to become
abbrev pub unnamed : List ℕ
unnamed =
    codes "error: the name of OUT does not say what it is to be: let it end in .pcap, "
    ++ codes ".pcapng, .frames or .txt, or give --to KIND\n"

-- what the file is, where the task ended since it is neither a frame stream nor a capture
abbrev pub other_form : TaskOutcome → Option FileForm
other_form (Faulted BadMagic form) = Some form
other_form outcome = None

-- what is said of how the task ended: of such a file what it is
abbrev pub converted_lines : Option FileForm → Ending → List ℕ
converted_lines (Some form) ending = sentence_of BadMagic ++ stream_line form
converted_lines None ending = told_of ending

abbrev pub told_converted : Ending → List ℕ
told_converted ending = converted_lines (other_form ending.outcome) ending

-- Frames were written again, or not, and standard error got the messages; or nothing says what they
-- are to become, and standard error got that and how the arguments are written.
abbrev pub ConvertsWhole : {W F : Type 0} → (W → Option (List ℕ)) → (F → Option (List ℕ))
    → ConvertRequest → PromptWriter W → PromptWriter W → Option (List ℕ) → Option (List ℕ) → ℕ
    → Type 0
ConvertsWhole contents files request old new before after status =
    ((ended : Ending) × ConvertsTo contents files request old new ended
    × (status ≡ status_of ended.outcome) × AppendsPart before after (told_converted ended))
    ⊎ ((form : FileForm) × (kind_of request form ≡ None) × (new ≡ old) × (status ≡ 1)
    × AppendsPart before after (unnamed ++ usage))

-- what is asked for is done
abbrev pub ServesRequest : {W F : Type 0} → (W → Option (List ℕ)) → (F → Option (List ℕ))
    → OperatorRequest → PromptWriter W → PromptWriter W → Option (List ℕ) → Option (List ℕ) → ℕ
    → Type 0
ServesRequest contents files (Filter request) old new before after status =
    FiltersWhole contents request old new before after status
ServesRequest contents files (Convert request) old new before after status =
    ConvertsWhole contents files request old new before after status

-- ---- nothing is asked for

-- the arguments are wrong: standard error got why and how they are written, or a beginning of that
abbrev pub TellsWrong : {W : Type 0} → List ℕ → PromptWriter W → PromptWriter W → Option (List ℕ)
    → Option (List ℕ) → ℕ → Type 0
TellsWrong text old new before after status =
    (status ≡ 1) × (new ≡ old) × AppendsPart before after (text ++ usage)

-- memory ran out, and nothing was done
abbrev pub TellsMemory : {W : Type 0} → PromptWriter W → PromptWriter W → Option (List ℕ)
    → Option (List ℕ) → ℕ → Type 0
TellsMemory old new before after status =
    (status ≡ 5) × (new ≡ old) × AppendsPart before after (codes "out of memory\n")

-- standard output is said a text, and then flushed
pub record SaysText {W : Type 0} (contents : W → Option (List ℕ)) (text : List ℕ)
    (old new : PromptWriter W) (before after : Option (List ℕ)) (status : ℕ) : Type 0 where
  pub given : PromptWriter W
  pub outcome : TaskOutcome
  pub ending : Ending
  pub says : Says (held contents old) (held contents given) text Done outcome
  pub hands_on : Flushes contents given new (record { outcome = outcome; why = None }) ending
  pub status_is : status ≡ status_of ending.outcome
  pub said : AppendsPart before after (told_of ending)

-- why there is no run is said, or the text that is asked for
abbrev pub SaysNoTask : {W : Type 0} → (W → Option (List ℕ)) → FilterWordsError → PromptWriter W
    → PromptWriter W → Option (List ℕ) → Option (List ℕ) → ℕ → Type 0
SaysNoTask contents (error.Shown text) old new before after status =
    SaysText contents (string_bytes text) old new before after status
SaysNoTask contents (error.Wrong text) old new before after status =
    TellsWrong (string_bytes text) old new before after status
SaysNoTask contents error.Memory old new before after status =
    TellsMemory old new before after status

-- ---- the program

-- what is done for a request, or where the arguments make none: only those that may ask for the
-- help or the version get a text
abbrev pub Answers : {W F : Type 0} → (W → Option (List ℕ)) → (F → Option (List ℕ))
    → Option OperatorRequest → List (List ℕ) → PromptWriter W → PromptWriter W → Option (List ℕ)
    → Option (List ℕ) → ℕ → Type 0
Answers contents files (Some request) words old new before after status =
    ServesRequest contents files request old new before after status
Answers contents files None words old new before after status =
    ((text : List ℕ) × TellsWrong text old new before after status)
    ⊎ ((text : List ℕ) × AsksForText words × SaysText contents text old new before after status)

-- the program does what the arguments ask for; or memory ran out before that was known. `contents`
-- has the bytes of standard output, and `files` those of files, where they are known
abbrev pub FiltersWords : {W F : Type 0} → (W → Option (List ℕ)) → (F → Option (List ℕ))
    → List (List ℕ) → PromptWriter W → PromptWriter W → Option (List ℕ) → Option (List ℕ) → ℕ
    → Type 0
FiltersWords contents files words old new before after status =
    TellsMemory old new before after status
    ⊎ Answers contents files (filter_asked words) words old new before after status

-- the arguments could not be read, and nothing is done: standard error got why
abbrev pub TellsUnread : WordsError → Option (List ℕ) → Option (List ℕ) → ℕ → Type 0
TellsUnread (Wrong text) before after status =
    (status ≡ 1) × AppendsPart before after (string_bytes text ++ usage)
TellsUnread NotUnicode before after status =
    (status ≡ 1) × AppendsPart before after (codes "error: an argument is not UTF-8\n" ++ usage)
TellsUnread Memory before after status =
    (status ≡ 5) × AppendsPart before after (codes "out of memory\n")
