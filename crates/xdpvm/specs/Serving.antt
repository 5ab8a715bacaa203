-- What the program does for a request. No contract can say what the files hold.
use Rattle.std.specs.Prelude.{◌≡◌, ℕ, List, Option, Some, None, ◌⊎◌}
use Rattle.commands.specs.declared.outcomes.TaskOutcome.{TaskOutcome}
use Rattle.commands.specs.declared.outcomes.TaskOutcome.TheVariants.{Done}
use Rattle.commands.specs.declared.endings.Ending.{Ending}
use Rattle.messages.specs.Entries.{IsEntryOf}
use Rattle.commands.specs.Saying.{Says}
use Rattle.commands.specs.Statuses.{IsWrongWords, SaysWrongWords, no_code}
use Rattle.commands.specs.Known.{Plainly}
use Rattle.commands.specs.Files.{DisassemblesFile, AssemblesFile}
use Rattle.commands.specs.Commands.{TracesFile, RunsFile, RunsShown, VerifiesFile, RechecksFile}
use Rattle.xdpvm.specs.Proving.{ProvesTold, ProvesFile}
use Rattle.words.specs.Requests.{TaskRequest, Trace, Run, Verify, Prove, Recheck, Assemble, Disassemble, Explain}

-- `explain`: standard output gets the entry of the code, or nothing has that code
abbrev pub ExplainsCode : List ℕ → Option (List ℕ) → Option (List ℕ) → TaskOutcome → Type 0
ExplainsCode code old new result =
    (SaysWrongWords no_code result × (new ≡ old))
    ⊎ ((text : List ℕ) × IsEntryOf code text × Says old new text Done result)

-- ---- the program

-- what is done for a request, or where the arguments make none
abbrev pub Serves : Option TaskRequest → Option (List ℕ) → Option (List ℕ) → Ending → Type 0
Serves None old new result = Plainly (λ o. IsWrongWords o × (new ≡ old)) result
Serves (Some (Trace files limit)) old new result = TracesFile files limit old new result
Serves (Some (Run files None)) old new result = RunsFile files old new result
Serves (Some (Run files (Some table))) old new result = RunsShown files table old new result
Serves (Some (Verify path)) old new result = VerifiesFile path old new result
Serves (Some (Prove files)) old new result = ProvesFile files old new result
Serves (Some (Recheck files)) old new result = RechecksFile files old new result
Serves (Some (Assemble path image)) old new result = AssemblesFile path image old new result
Serves (Some (Disassemble path)) old new result = Plainly (DisassemblesFile path old new) result
Serves (Some (Explain code)) old new result = Plainly (ExplainsCode code old new) result

-- the same, and what standard error gets before the message: of all commands only `prove` writes
-- something then
abbrev pub ServesTold : Option TaskRequest → Option (List ℕ) → Option (List ℕ) → Option (List ℕ)
    → Option (List ℕ) → Ending → Type 0
ServesTold (Some (Prove files)) old new told_old told_new result =
    ProvesTold files old new told_old told_new result
ServesTold request old new told_old told_new result =
    Serves request old new result × (told_new ≡ told_old)
