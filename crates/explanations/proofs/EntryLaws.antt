-- The text about an entry of a proof table.
use Rattle.explanations.proofs.Common.{◌≡◌, ◌<◌, ◌≤◌, ℕ, suc, List, [], ◌∷◌, Option, Some, None, String, Result, Ok, length, refl, subst, sym, ap, ap₂, ◌∙◌, arith, inl, inr, IfOk, IfSome, slice_get, string_bytes, State, Entry, TableView, KeepsEntries, entry_at, table_read, Differs, IsInBoth, IsThere, IsMismatch, difference_lines}
use Rattle.std.specs.declared.alloc.Global.{Global}
use Rattle.std.specs.declared.alloc.AllocError.{AllocError}
use Rattle.isa_model.specs.Code.Instructions.{Program}
use Rattle.transfer.specs.declared.Ways.{Ways}
use Rattle.transfer.specs.declared.Ways.TheVariants as ways
use Rattle.rechecking.specs.declared.errors.TableError.{TableError}
use Rattle.rechecking.specs.Tables.{EntryAt}
use Rattle.explanations.specs.declared.entries.EntryReason.{EntryReason}
use Rattle.explanations.specs.declared.mismatches.Mismatch.{Mismatch}
use Rattle.explanations.specs.declared.mismatches.Mismatch.TheVariants.{Missing, NotSmaller}
use Rattle.explanations.specs.Entries.{states_of, ways_in, count_line, TellsNamed, TellsSuccessors, IsReasonAt, IsEntryReason}

-- ---- words

-- the texts of a difference are these words
pub differs_by : (r : Result (String Global) AllocError) (nth index : ℕ) (a b c x y z : List ℕ)
    → a ≡ x → b ≡ y → c ≡ z
    → IfOk r (λ t. string_bytes t ≡ difference_lines nth index a b c)
    → IfOk r (λ t. string_bytes t ≡ difference_lines nth index x y z)
differs_by r nth index a b c x y z e f g h =
    subst (λ (l : List ℕ). IfOk r (λ t. string_bytes t ≡ difference_lines nth index x y l)) g
    (subst (λ (l : List ℕ). IfOk r (λ t. string_bytes t ≡ difference_lines nth index x l c)) f
    (subst (λ (l : List ℕ). IfOk r (λ t. string_bytes t ≡ difference_lines nth index l b c)) e h))

-- ---- entries that are named

-- an entry that is there, with a smaller number, differs so
there_differs : (t : EntryAt) (number index : ℕ) (e a : State) (entry : Entry) (m : Mismatch)
    → t index ≡ Some entry → entry.state ≡ e → entry.number < number
    → Differs e a m × IsInBoth e a m → IsThere t number index e a m
there_differs t number index e a entry m there same less h = record {
  entry = entry;
  there = there;
  state_is = same;
  smaller = less;
  differs = h.0;
  inside = h.1;
}

pub mismatches_of : (t : EntryAt) (number index : ℕ) (e a : State) (entry : Entry)
    (r : Option Mismatch) → t index ≡ Some entry → entry.state ≡ e → entry.number < number
    → IfSome r (λ m. Differs e a m × IsInBoth e a m)
    → IfSome r (λ m. IsMismatch t number index e a m)
mismatches_of t number index e a entry None there same less h = tt
mismatches_of t number index e a entry (Some Missing) there same less h = absurd h.0
mismatches_of t number index e a entry (Some (NotSmaller other)) there same less h = absurd h.0
mismatches_of t number index e a entry (Some m) there same less h =
    there_differs t number index e a entry m there same less h

-- ---- successors

states_count : (w : Ways) (a b : State) → length (states_of w a b) ≡ ways_in w
states_count ways.None a b = refl
states_count ways.One a b = refl
states_count ways.Two a b = refl

led_first : (w : Ways) (a b : State) → 1 ≤ ways_in w → slice_get (states_of w a b) 0 ≡ Some a
led_first ways.None a b some = absurd (omega arith)
led_first ways.One a b some = refl
led_first ways.Two a b some = refl

led_second : (w : Ways) (a b : State) → 2 ≤ ways_in w → slice_get (states_of w a b) 1 ≡ Some b
led_second ways.None a b some = absurd (omega arith)
led_second ways.One a b some = absurd (omega arith)
led_second ways.Two a b some = refl

pub tells_counts : (t : EntryAt) (number : ℕ) (named : List ℕ) (w : Ways) (a b : State)
    (r : Option (String Global)) (m n : ℕ) → m ≡ ways_in w → n ≡ length named → (m ≡ n → ⊥)
    → IfSome r (λ s. string_bytes s ≡ count_line m n)
    → IfSome r (λ s. TellsSuccessors t number named (states_of w a b) (string_bytes s))
tells_counts t number named w a b None m n e f differ is = tt
tells_counts t number named w a b (Some s) m n e f differ is =
    let count = states_count w a b in
    inl ((λ same. differ (e ∙ (sym count ∙ (same ∙ sym f)))), is ∙ ap₂ count_line (e ∙ sym count) f)

pub tells_first : (t : EntryAt) (number i : ℕ) (named rest : List ℕ) (w : Ways) (a b : State)
    (r : Option (String Global)) → named ≡ i ∷ rest → ways_in w ≡ length named
    → IfSome r (λ s. TellsNamed t number 0 i a (string_bytes s))
    → IfSome r (λ s. TellsSuccessors t number named (states_of w a b) (string_bytes s))
tells_first t number i named rest w a b None at count is = tt
tells_first t number i named rest w a b (Some s) at count is =
    let all : ways_in w ≡ suc (length rest) = count ∙ ap length at in
    inr (record {
      nth = 0;
      index = i;
      state = a;
      is_named = ap (λ (l : List ℕ). slice_get l 0) at;
      is_led = led_first w a b (omega arith);
      tells = is;
    })

pub tells_second : (t : EntryAt) (number i j : ℕ) (named : List ℕ) (w : Ways) (a b : State)
    (r : Option (String Global)) → named ≡ i ∷ j ∷ [] → ways_in w ≡ length named
    → IfSome r (λ s. TellsNamed t number 1 j b (string_bytes s))
    → IfSome r (λ s. TellsSuccessors t number named (states_of w a b) (string_bytes s))
tells_second t number i j named w a b None at count is = tt
tells_second t number i j named w a b (Some s) at count is =
    let all : ways_in w ≡ 2 = count ∙ ap length at in
    inr (record {
      nth = 1;
      index = j;
      state = b;
      is_named = ap (λ (l : List ℕ). slice_get l 1) at;
      is_led = led_second w a b (omega arith);
      tells = is;
    })

-- ---- tables

-- what is said of the entries at the places of a table is said of those that its bytes spell
pub reasons_of : (p : Program) (bytes : List ℕ) (t : TableView) (entries : List Entry)
    (error : TableError) (r : Option EntryReason) → table_read p bytes ≡ Ok entries
    → KeepsEntries p t entries
    → IfSome r (λ f. IsReasonAt p (entry_at p t) error f.slot f.insn (string_bytes f.text))
    → IfSome r (λ f. IsEntryReason p bytes error f.slot f.insn (string_bytes f.text))
reasons_of p bytes t entries error None read holds is = tt
reasons_of p bytes t entries error (Some f) read holds is =
    let same : entry_at p t ≡ slice_get entries = λ i k. holds.each k i in (
      entries,
      read,
      subst
          (λ (u : EntryAt). IsReasonAt p u error f.slot f.insn (string_bytes f.text)) same is,
    )
