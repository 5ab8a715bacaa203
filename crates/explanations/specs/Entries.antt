-- What is said of an entry of a table whose step was tested.
use Rattle.std.specs.Prelude.{◌≡◌, ◌≢◌, ℕ, List, [], ◌∷◌, ◌++◌, length, slice_get, Some, Ok, codes, decimal, ◌⊎◌}
use Rattle.isa_model.specs.declared.instructions.Insn.{Insn}
use Rattle.isa_model.specs.declared.map_defs.MapDef.{MapDef}
use Rattle.isa_model.specs.Code.Instructions.{Program, fetch}
use Rattle.stack_state.specs.declared.states.State.{State}
use Rattle.transfer.specs.declared.Ways.{Ways}
use Rattle.transfer.specs.declared.Ways.TheVariants as ways
use Rattle.transfer.specs.declared.refusals.Refusal as transfer
use Rattle.transfer.specs.Exact.{StepsToWays}
use Rattle.walks.specs.declared.refusals.Refusal.TheVariants as refusal
use Rattle.table_entries.specs.Entries.{Entry}
use Rattle.table_entries.specs.Tables.{table_read}
use Rattle.rechecking.specs.declared.errors.TableError.{TableError}
use Rattle.rechecking.specs.declared.errors.TableError.TheVariants.{Step, Successor}
use Rattle.rechecking.specs.Tables.{EntryAt}
use Rattle.explanations.specs.declared.mismatches.Mismatch.{Mismatch}
use Rattle.explanations.specs.Lines.{register_lines, answer_line, stack_lines}
use Rattle.explanations.specs.Mismatches.{IsMismatch, mismatch_lines}

-- if the step of an entry is refused, the registers and stack slots that concern its instruction
abbrev pub step_lines : List MapDef → State → Insn → transfer.Refusal → List ℕ
step_lines rows a i r =
    register_lines a i ++ (answer_line a (refusal.Step r) ++ stack_lines rows a i)

-- the successors of a step, the fall-through first
abbrev pub states_of : Ways → State → State → List State
states_of ways.None a b = []
states_of ways.One a b = a ∷ []
states_of ways.Two a b = a ∷ b ∷ []

abbrev pub ways_in : Ways → ℕ
ways_in ways.None = 0
ways_in ways.One = 1
ways_in ways.Two = 2

-- how many successors there are, and how many entries are named
abbrev pub count_line : ℕ → ℕ → List ℕ
count_line successors named_count =
    codes "successors: "
    ++ (decimal successors ++ (codes "; entries named: " ++ (decimal named_count ++ codes "\n")))

-- why the entry with this index cannot be named for the nth state
pub record TellsNamed (t : EntryAt) (number nth index : ℕ) (state : State)
    (text : List ℕ) : Type 0 where
  pub other : State
  pub mismatch : Mismatch
  pub is : IsMismatch t number index other state mismatch
  pub text_is : text ≡ mismatch_lines number nth index other state mismatch

-- one of the states, and the entry that is named for it
pub record TellsOne (t : EntryAt) (number : ℕ) (named : List ℕ) (states : List State)
    (text : List ℕ) : Type 0 where
  pub nth : ℕ
  pub index : ℕ
  pub state : State
  pub is_named : slice_get named nth ≡ Some index
  pub is_led : slice_get states nth ≡ Some state
  pub tells : TellsNamed t number nth index state text

-- the counts differ; or one of the entries that are named cannot be named for its state
abbrev pub TellsSuccessors : EntryAt → ℕ → List ℕ → List State → List ℕ → Type 0
TellsSuccessors t number named states text =
    ((length states ≢ length named) × (text ≡ count_line (length states) (length named)))
    ⊎ TellsOne t number named states text

-- what is said of the entry, whose step executes this instruction
abbrev pub SaysOfEntry : Program → EntryAt → TableError → Insn → Entry → List ℕ → Type 0
SaysOfEntry p t (Step k r) i e text = text ≡ step_lines p.maps e.state i r
SaysOfEntry p t (Successor k) i e text = (w : Ways) × (a : State) × (b : State)
    × StepsToWays p e.state i w a b × TellsSuccessors t e.number e.successors (states_of w a b) text
SaysOfEntry p t error i e text = ⊥

-- the index of the entry that is refused
abbrev pub IsIndexOf : TableError → ℕ → Type 0
IsIndexOf (Step k r) index = k ≡ index
IsIndexOf (Successor k) index = k ≡ index
IsIndexOf error index = ⊥

-- the entry is at this slot, where this instruction begins, and the text is what is said of it
pub record IsReasonAt (p : Program) (t : EntryAt) (error : TableError) (slot : ℕ) (i : Insn)
    (text : List ℕ) : Type 0 where
  pub index : ℕ
  pub of : IsIndexOf error index
  pub entry : Entry
  pub there : t index ≡ Some entry
  pub slot_is : slot ≡ entry.state.slot
  pub here : fetch p slot ≡ Some i
  pub says : SaysOfEntry p t error i entry text

-- the text is the reason of an entry of the table that these bytes spell
abbrev pub IsEntryReason : Program → List ℕ → TableError → ℕ → Insn → List ℕ → Type 0
IsEntryReason p bytes error slot i text = (entries : List Entry) × (table_read p bytes ≡ Ok entries)
    × IsReasonAt p (slice_get entries) error slot i text
