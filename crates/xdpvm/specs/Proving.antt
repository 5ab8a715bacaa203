-- What is written where a proof table of an accepted program is made, and how the task ends then.
use Rattle.std.specs.Prelude.{◌≡◌, ◌<◌, ◌≤◌, ℕ, List, ◌++◌, Option, ◌⊎◌, codes, decimal, Some}
use Rattle.std.specs.Io.KnownBytes.{Keeps}
use Rattle.isa_model.specs.{Program}
use Rattle.table_entries.specs.declared.errors.WriteTableError.{WriteTableError}
use Rattle.table_entries.specs.Entries.{Entry}
use Rattle.proof_table.specs.Writing.{GainsTableOf, BeginsTable, IsTableSize, table_length}
use Rattle.xdpvm.specs.declared.proving.TheConstants.{LARGE}
use Rattle.commands.specs.declared.outcomes.TaskOutcome.{TaskOutcome}
use Rattle.commands.specs.declared.outcomes.TaskOutcome.TheVariants.{Done, Refused}
use Rattle.commands.specs.Saying.{AppendsPart, Says, LacksMemory}
use Rattle.commands.specs.Judging.{IsStoreFailure, IsBoundOf, RefusesProgram}
use Rattle.commands.specs.Streams.{IsBeginningOf}
use Rattle.commands.specs.declared.endings.Ending.{Ending}
use Rattle.messages.specs.Lines.{bound_line, explored_line}
use Rattle.commands.specs.Statuses.{IsWriteFailureBy}
use Rattle.commands.specs.Known.{Plainly, IsKnownOfProgram}
use Rattle.commands.specs.Files.{MakesNone, LoadsNone, ReadsImage}
use Rattle.words.specs.Requests.{TableFiles}
use Rattle.table_entries.specs.declared.errors.WriteTableError.TheVariants.{Memory, Explored, Writer}
use Rattle.messages.specs.declared.rejections.Rejection.TheVariants as rejection

-- the line about a large table's size, which standard error gets before the table is written
abbrev pub size_text : ℕ → List ℕ
size_text size = codes "the proof table has " ++ (decimal size ++ codes " bytes\n")

-- standard error got how many bytes a table has, or a beginning of that, if it is large; of another
-- one it got nothing
abbrev pub SaysSize : ℕ → Option (List ℕ) → Option (List ℕ) → Type 0
SaysSize size told_old told_new =
    ((LARGE < size) × AppendsPart told_old told_new (size_text size))
    ⊎ ((size ≤ LARGE) × (told_new ≡ told_old))

-- the same of a table of these entries
abbrev pub SaysSizeOf : List Entry → Option (List ℕ) → Option (List ℕ) → Type 0
SaysSizeOf entries told_old told_new = SaysSize (table_length entries) told_old told_new

-- a table was handed on, and before that it was said how many bytes it has, if it is large
pub record GainsSaid (p : Program) (before handed told_old told_new : Option (List ℕ)) : Type 0
  where
    pub entries : List Entry
    pub gains : GainsTableOf p entries before handed
    pub said : SaysSizeOf entries told_old told_new

-- a beginning of a table was handed on, and before that it was said how many bytes a table of the
-- program has, if it is large; or nothing was, since that is not known
pub record BeginsSaid (p : Program) (before handed told_old told_new : Option (List ℕ)) : Type 0
  where
    pub begins : BeginsTable p before handed
    pub said : (told_new ≡ told_old)
        ⊎ ((size : ℕ) × IsTableSize p size × SaysSize size told_old told_new)

-- how the task ends if the table was not written to the file at this path, with this error
abbrev pub EndsUnwritten : List ℕ → WriteTableError → Option (List ℕ) → Option (List ℕ)
    → TaskOutcome → Type 0
EndsUnwritten path Memory old new result = LacksMemory old new result
EndsUnwritten path Explored old new result =
    LacksMemory old new result ⊎ Says old new explored_line (Refused rejection.Explored) result
EndsUnwritten path (Writer kind) old new result =
    IsWriteFailureBy path (Some kind) result × (new ≡ old)

-- `handed` is what was written to the buffer of the file at this path: a table of the program, or
-- a beginning of one. Either the file got the whole table, and then standard output says the line;
-- or the file failed and got a beginning, and standard output got nothing; or the table was not
-- written whole, with some error, and the file got a beginning of what was.
pub record StoresTable (p : Program) (line path : List ℕ)
    (before after old new told_old told_new : Option (List ℕ)) (result : TaskOutcome) : Type 0 where
  pub handed : Option (List ℕ)
  pub ends : (GainsSaid p before handed told_old told_new × Keeps handed after
      × Says old new line Done result)
      ⊎ ((GainsSaid p before handed told_old told_new × IsBeginningOf after handed
      × IsStoreFailure path result × (new ≡ old))
      ⊎ (BeginsSaid p before handed told_old told_new × IsBeginningOf after handed
      × ((error : WriteTableError) × EndsUnwritten path error old new result)))

-- ---- the command

-- a proof table was written to the file at the path, and then the line with the bound
pub record ProvesSome (p : Program) (bound : ℕ) (path : List ℕ)
    (old new told_old told_new : Option (List ℕ)) (result : TaskOutcome) : Type 0 where
  pub before : Option (List ℕ)
  pub after : Option (List ℕ)
  pub stores : StoresTable p (bound_line bound) path before after old new told_old told_new result

-- a program is accepted, with its bound, and then a table of it is written
abbrev pub AcceptsAndProves : List ℕ → Program → Option (List ℕ) → Option (List ℕ)
    → Option (List ℕ) → Option (List ℕ) → TaskOutcome → Type 0
AcceptsAndProves table p old new told_old told_new result =
    (bound : ℕ) × IsBoundOf p bound
    × ((MakesNone table old new result × (told_new ≡ told_old))
    ⊎ ProvesSome p bound table old new told_old told_new result)

-- `prove`, before its message is written: standard error got nothing, or how many bytes the table
-- has; if the program is refused, the lines at the end of the message say what is known
abbrev pub ProvesTold : TableFiles → Option (List ℕ) → Option (List ℕ) → Option (List ℕ)
    → Option (List ℕ) → Ending → Type 0
ProvesTold files old new told_old told_new result =
    (Plainly (LoadsNone files.image old new) result × (told_new ≡ told_old))
    ⊎ ReadsImage
    (λ p. ((RefusesProgram p old new result.outcome × (told_new ≡ told_old))
    ⊎ AcceptsAndProves files.table p old new told_old told_new result.outcome)
    × IsKnownOfProgram p result)

-- what `prove` does to standard output
abbrev pub ProvesFile : TableFiles → Option (List ℕ) → Option (List ℕ) → Ending → Type 0
ProvesFile files old new result =
    (told_old : Option (List ℕ)) × (told_new : Option (List ℕ))
    × ProvesTold files old new told_old told_new result
