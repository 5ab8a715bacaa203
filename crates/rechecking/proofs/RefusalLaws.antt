-- What a table that was read shows, and why it is refused, by the entries that its bytes are.
use Rattle.rechecking.proofs.Common.{◌≡◌, ℕ, ◌<◌, List, slice_get, Some, Ok, ◌⊎◌, subst, Program, Entry, TableView, KeepsEntries, entry_at, table_read, EntryAt, IsClosedEntry, HasStart, IsFirstRefused}
use Rattle.control_flow.specs.Flows.{IsFlow}
use Rattle.table_entries.specs.declared.refusals.TableRefusal.TheVariants as refusal
use Rattle.rechecking.specs.declared.errors.TableError.{TableError}
use Rattle.rechecking.specs.declared.errors.TableError.TheVariants.{Flow, Bytes, Start, Step, Successor}
use Rattle.rechecking.specs.Refusing.{ShowsBound, TableIsRefused}

-- the entries by their indexes are those of the bytes
same_entries : (p : Program) (t : TableView) (entries : List Entry) → KeepsEntries p t entries
    → entry_at p t ≡ slice_get entries
same_entries p t entries h = λ i k. h.each k i

pub shows_of : (p : Program) (bytes : List ℕ) (t : TableView) (entries : List Entry) (n : ℕ)
    → table_read p bytes ≡ Ok entries → KeepsEntries p t entries → HasStart p (entry_at p t) n
    → ((k : ℕ) (e : Entry) → entry_at p t k ≡ Some e → IsClosedEntry p (entry_at p t) e)
    → ShowsBound p bytes n
shows_of p bytes t entries n read h start each =
    let same = same_entries p t entries h in
    shown (slice_get entries) (subst (λ (u : EntryAt). HasStart p u n) same start)
    (subst (λ (u : EntryAt). (k : ℕ) (e : Entry) → u k ≡ Some e → IsClosedEntry p u e) same each)
  where
    shown : (u : EntryAt) → HasStart p (slice_get entries) n
        → ((k : ℕ) (e : Entry) → slice_get entries k ≡ Some e
        → IsClosedEntry p (slice_get entries) e) → ShowsBound p bytes n
    shown u s all = record {
      entries = entries;
      read = read;
      closed = record { first = s.first; at_first = s.there; starts = s.starts; each = all };
      number_is = s.number_is;
    }

pub refused_entry : (p : Program) (bytes : List ℕ) (t : TableView) (entries : List Entry) (n : ℕ)
    (error : TableError) → IsFlow p → table_read p bytes ≡ Ok entries → KeepsEntries p t entries
    → HasStart p (entry_at p t) n → IsFirstRefused p (entry_at p t) error
    → TableIsRefused p bytes error
refused_entry p bytes t entries n error flow read h start refused =
    by error (subst (λ (u : EntryAt). IsFirstRefused p u error) same refused)
  where
    same : entry_at p t ≡ slice_get entries
    same = same_entries p t entries h

    first : (m : ℕ) × HasStart p (slice_get entries) m
    first = (n, subst (λ (u : EntryAt). HasStart p u n) same start)

    by : (x : TableError) → IsFirstRefused p (slice_get entries) x → TableIsRefused p bytes x
    by (Step k r) f = (entries, (flow, read), first, f)
    by (Successor k) f = (entries, (flow, read), first, f)
    by (Flow e s) f = absurd f.2
    by (Bytes g) f = absurd f.2
    by Start f = absurd f.2
