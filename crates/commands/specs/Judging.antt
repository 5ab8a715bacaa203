-- What standard output says of images, programs, texts and proof tables, and how a task ends then.
use Rattle.std.specs.Prelude.{◌≡◌, ◌≢◌, ℕ, false, List, Option, Some, Err, ◌⊎◌}
use Rattle.std.specs.Io.KnownBytes.{Appends}
use Rattle.exact_io.specs.Transfers.{AppendsBeginning}
use Rattle.isa_model.specs.declared.instructions.Insn.{Insn}
use Rattle.isa_model.specs.{Program, fetch}
use Rattle.image.specs.declared.errors.ImageError.{ImageError}
use Rattle.image.specs.Images.{image_bytes}
use Rattle.image.specs.Refusals.{refusal_of}
use Rattle.walks.specs.declared.refusals.Refusal.{Refusal}
use Rattle.bounds.specs.Bounds.{Bounded, IsVerified}
use Rattle.table_entries.specs.declared.errors.WriteTableError.TheVariants.{Memory}
use Rattle.assembler.specs.declared.errors.AsmError.{AsmError}
use Rattle.commands.specs.declared.texts.KeptText.{KeptText}
use Rattle.commands.specs.Texts.{spelled}
use Rattle.commands.specs.declared.outcomes.TaskOutcome.{TaskOutcome}
use Rattle.commands.specs.declared.outcomes.TaskOutcome.TheVariants.{Done, Refused, NoMemory}
use Rattle.messages.specs.Forms.{file_form_of}
use Rattle.commands.specs.Statuses.{IsWriteFailure}
use Rattle.messages.specs.Lines.{image_line, verdict_line, text_line, bound_line, is_memory, table_line, is_table_memory}
use Rattle.commands.specs.Saying.{Says, LacksMemory}
use Rattle.stack_state.specs.Starts.{start}
use Rattle.walks.specs.Accepting.{BoundsAll}
use Rattle.walks.specs.Counts.{HasNumber}
use Rattle.walks.specs.Refused.{IsRefused}
use Rattle.walks.specs.declared.refusals.Refusal.TheVariants.{Flow}
use Rattle.rechecking.specs.declared.errors.TableError.{TableError}
use Rattle.rechecking.specs.Refusing.{ShowsBound}
use Rattle.assembler.specs.declared.errors.AsmErrorKind.TheVariants as kind
use Rattle.messages.specs.declared.rejections.Rejection.TheVariants as rejection
use Rattle.rechecking.specs.declared.errors.TableError.TheVariants as table
use Rattle.rechecking.specs.Refusing as rechecking

-- bytes are not an image, and standard output says why; or memory ran out
abbrev pub RefusesImage : List ℕ → Option (List ℕ) → Option (List ℕ) → TaskOutcome → Type 0
RefusesImage bytes old new result =
    LacksMemory old new result
    ⊎ ((error : ImageError) × (refusal_of bytes ≡ Some error)
    × Says old new (image_line error)
    (Refused (rejection.Image error (Some (file_form_of bytes)))) result)

-- standard output says that a program is refused at a slot, where this instruction begins;
-- or memory ran out
abbrev pub SaysRefused : Refusal → ℕ → Option Insn → Option (List ℕ) → Option (List ℕ) → TaskOutcome
    → Type 0
SaysRefused refusal slot insn old new result =
    LacksMemory old new result
    ⊎ ((is_memory refusal ≡ false)
    × Says old new (verdict_line refusal slot)
    (Refused (rejection.Program refusal slot insn)) result)

-- standard output says the bound of an accepted program; or memory ran out
abbrev pub Accepts : Bounded → Option (List ℕ) → Option (List ℕ) → TaskOutcome → Type 0
Accepts v old new result =
    LacksMemory old new result ⊎ Says old new (bound_line v.bound) Done result

-- a text spells no program, and standard output says why and where; or memory ran out
abbrev pub RefusesText : KeptText → Option (List ℕ) → Option (List ℕ) → TaskOutcome → Type 0
RefusesText source old new result =
    LacksMemory old new result
    ⊎ ((error : AsmError) × (spelled source ≡ Err error) × (error.kind ≢ kind.Memory)
    × Says old new (text_line error) (Refused (rejection.Text error)) result)

-- the file at this path cannot be written, or memory ran out
abbrev pub IsStoreFailure : List ℕ → TaskOutcome → Type 0
IsStoreFailure path result = (result ≡ NoMemory) ⊎ IsWriteFailure path result

-- an image was written, and then standard output says the line; or a beginning of the image was,
-- and standard output got nothing
abbrev pub StoresImage : Program → List ℕ → List ℕ → Option (List ℕ) → Option (List ℕ)
    → Option (List ℕ) → Option (List ℕ) → TaskOutcome → Type 0
StoresImage p line path before after old new result =
    (Appends before after (image_bytes p) × Says old new line Done result)
    ⊎ (AppendsBeginning before after (image_bytes p) × IsStoreFailure path result × (new ≡ old))

-- a program is refused, and standard output says why and where; or memory ran out
abbrev pub RefusesProgram : Program → Option (List ℕ) → Option (List ℕ) → TaskOutcome → Type 0
RefusesProgram p old new result =
    LacksMemory old new result
    ⊎ ((refusal : Refusal) × (slot : ℕ) × IsRefused p refusal slot × (is_memory refusal ≡ false)
    × Says old new (verdict_line refusal slot)
    (Refused (rejection.Program refusal slot (fetch p slot))) result)

-- the bound of an accepted program: every run exits within it, it is the number of the start state,
-- and `BoundsAll` says more of it for programs that must be accepted
pub record IsBoundOf (p : Program) (bound : ℕ) : Type 0 where
  pub verified : IsVerified (record { program = p; bound = bound })
  pub number : HasNumber p start bound
  pub bounds : BoundsAll p bound

-- a program is accepted with its bound, and standard output says this bound
abbrev pub AcceptsSome : Program → Option (List ℕ) → Option (List ℕ) → TaskOutcome → Type 0
AcceptsSome p old new result =
    (bound : ℕ) × IsBoundOf p bound × Accepts (record { program = p; bound = bound }) old new result

abbrev pub Verifies : Program → Option (List ℕ) → Option (List ℕ) → TaskOutcome → Type 0
Verifies p old new result = AcceptsSome p old new result ⊎ RefusesProgram p old new result

-- ---- tables

-- The bound that a table shows, whoever made the table: its bytes are a closed table of the program
-- with this number first, and so every run exits within it.
pub record IsBoundShown (p : Program) (bytes : List ℕ) (bound : ℕ) : Type 0 where
  pub verified : IsVerified (record { program = p; bound = bound })
  pub shows : ShowsBound p bytes bound

-- standard output says that a table is refused, where the slot of an entry whose step was tested
-- may be known; or memory ran out
abbrev pub SaysTable : TableError → Option (ℕ × Insn) → Option (List ℕ) → Option (List ℕ)
    → TaskOutcome → Type 0
SaysTable error position old new result =
    LacksMemory old new result
    ⊎ Says old new (table_line error) (Refused (rejection.Table error position)) result

-- the same for a refusal of a table of this program; if the program's control flow is refused, the
-- message says that the program is
abbrev pub SaysOfTable : Program → TableError → Option (List ℕ) → Option (List ℕ) → TaskOutcome
    → Type 0
SaysOfTable p (table.Flow error slot) old new result =
    SaysRefused (Flow error) slot (fetch p slot) old new result
SaysOfTable p error old new result =
    LacksMemory old new result
    ⊎ ((position : Option (ℕ × Insn)) × (is_table_memory error ≡ false)
    × Says old new (table_line error) (Refused (rejection.Table error position)) result)

-- a table is refused, and standard output says why and where; or memory ran out
abbrev pub RefusesTable : Program → List ℕ → Option (List ℕ) → Option (List ℕ) → TaskOutcome
    → Type 0
RefusesTable p bytes old new result =
    LacksMemory old new result
    ⊎ ((error : TableError) × rechecking.TableIsRefused p bytes error
    × SaysOfTable p error old new result)
