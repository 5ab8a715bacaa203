-- How much of a text an output got, and how the task ended then.
use Rattle.std.specs.Prelude.{◌≡◌, ℕ, List, Option, ◌⊎◌}
use Rattle.std.specs.Io.KnownBytes.{Appends}
use Rattle.exact_io.specs.Transfers.{AppendsBeginning}
use Rattle.commands.specs.declared.outcomes.TaskOutcome.{TaskOutcome}
use Rattle.commands.specs.declared.outcomes.TaskOutcome.TheVariants.{NoMemory}
use Rattle.commands.specs.Statuses.{IsOutputFailure}

-- an output got all of a text, or a beginning that is shorter
abbrev pub AppendsPart : Option (List ℕ) → Option (List ℕ) → List ℕ → Type 0
AppendsPart old new text = Appends old new text ⊎ AppendsBeginning old new text

-- standard output got all of a text, and the task has the outcome `ended`; or a beginning that is
-- shorter, and then standard output failed
abbrev pub Says : Option (List ℕ) → Option (List ℕ) → List ℕ → TaskOutcome → TaskOutcome → Type 0
Says old new text ended result =
    (Appends old new text × (result ≡ ended))
    ⊎ (AppendsBeginning old new text × IsOutputFailure result)

-- memory ran out, and standard output got nothing
abbrev pub LacksMemory : Option (List ℕ) → Option (List ℕ) → TaskOutcome → Type 0
LacksMemory old new result = (result ≡ NoMemory) × (new ≡ old)
