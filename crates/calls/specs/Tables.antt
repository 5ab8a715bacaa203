-- What the call returns for a proof table.
use Rattle.std.specs.Prelude.{◌≡◌, ℕ, Bool, true, false, List, Some, ◌⊎◌}
use Rattle.isa_model.specs.Code.Instructions.{Program}
use Rattle.control_flow.specs.declared.errors.FlowError.TheVariants as flow
use Rattle.image.specs.Images.{image_bytes}
use Rattle.table_entries.specs.declared.refusals.TableRefusal.TheVariants as table_refusal
use Rattle.rechecking.specs.declared.errors.TableError.{TableError}
use Rattle.rechecking.specs.declared.errors.TableError.TheVariants.{Flow, Bytes, Start, Step, Successor}
use Rattle.rechecking.specs.Refusing.{ShowsBound, TableIsRefused}
use Rattle.calls.specs.declared.rechecks.Rechecked.{Rechecked}
use Rattle.image.specs.declared.errors.ImageError.{ImageError}
use Rattle.image.specs.Refusals.{refusal_of}
use Rattle.calls.specs.Crossing.{FillsBuffer}
use Rattle.messages.specs.Texts.{image_text, IsTableText}
use Rattle.calls.specs.Verdicts.{IsAcceptedImage, IsNoImage}

-- what is returned for a bound, and says nothing of a refusal
abbrev pub only_bound : ℕ → Rechecked
only_bound bound = record { said = 0; bound = bound; rule = 0; entry = 0 }

-- the bytes are an accepted image, and what is returned is the bound that the table shows of its
-- program
pub record ReturnsShownBound (bytes table : List ℕ) (out : Rechecked) : Type 0 where
  pub accepts : IsAcceptedImage bytes out.bound
  pub shows : ShowsBound accepts.program table out.bound
  pub alone : out ≡ only_bound out.bound

-- a rule that is broken, or 0 for the image or its control flow, at an entry; `said` is how many
-- bytes the text has
abbrev pub breaks : ℕ → ℕ → ℕ → Rechecked
breaks said rule entry = record { said = said; bound = 0; rule = rule; entry = entry }

abbrev pub broken : TableError → ℕ → Rechecked
broken (Flow error slot) said = breaks said 0 0
broken (Bytes table_refusal.Magic) said = breaks said 1 0
broken (Bytes table_refusal.Short) said = breaks said 2 0
broken (Bytes table_refusal.Long) said = breaks said 3 0
broken (Bytes table_refusal.Count) said = breaks said 4 0
broken (Bytes (table_refusal.Entry index)) said = breaks said 5 index
broken (Bytes table_refusal.Memory) said = breaks said 9 0
broken Start said = breaks said 6 0
broken (Step index refusal) said = breaks said 7 index
broken (Successor index) said = breaks said 8 index

-- whether a refusal says only that memory ran out
abbrev pub is_table_memory : TableError → Bool
is_table_memory (Flow flow.Memory slot) = true
is_table_memory (Flow error slot) = false
is_table_memory (Bytes table_refusal.Memory) = true
is_table_memory (Bytes error) = false
is_table_memory Start = false
is_table_memory (Step index refusal) = false
is_table_memory (Successor index) = false

-- the table of a program is refused, and a buffer has the text that says why
pub record FillsTableError (p : Program) (table old new : List ℕ) (out : Rechecked) : Type 0 where
  pub error : TableError
  pub refused : TableIsRefused p table error
  pub not_memory : is_table_memory error ≡ false
  pub out_is : out ≡ broken error out.said
  pub text : List ℕ
  pub text_is : IsTableText p table error text
  pub fills : FillsBuffer old new out.said text

-- the bytes are no image, or the table is refused, and a buffer has the text that says why
abbrev pub FillsTableRefusal : List ℕ → List ℕ → List ℕ → List ℕ → Rechecked → Type 0
FillsTableRefusal bytes table old new out =
    ((error : ImageError) × (refusal_of bytes ≡ Some error) × (out ≡ breaks out.said 0 0)
    × FillsBuffer old new out.said (image_text error))
    ⊎ ((program : Program) × (bytes ≡ image_bytes program)
    × FillsTableError program table old new out)

-- the bytes are no image, or the table is refused: the same without the text
abbrev pub IsRefusedTable : List ℕ → List ℕ → Type 0
IsRefusedTable bytes table =
    IsNoImage bytes
    ⊎ ((program : Program) × (error : TableError) × (bytes ≡ image_bytes program)
    × TableIsRefused program table error × (is_table_memory error ≡ false))
