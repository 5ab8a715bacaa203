-- What is known of entries while more of their table are placed.
use Rattle.rechecking.proofs.Common.{◌≡◌, ℕ, ◌<◌, ◌≤◌, Some, sym, ◌∙◌, arith, Program, step, After-weaker, State, EntryHead, Entry, entry_of, entry_at, count_of, entry_at-before, entry_at-stays, EntryAt, EntersSmaller, IsClosedEntry, HasEntry, IsKnownEntry, Enters, HasStart, AllFineBefore}
use Rattle.table_entries.specs.Growing.{Grown, Grows}
use Rattle.rechecking.specs.declared.entries.Known.{Known}
use Rattle.rechecking.specs.declared.entries.Known.TheVariants as known

-- each entry of one table is in the other, with the same index
abbrev Stays : EntryAt → EntryAt → Type 0
Stays t u = (k : ℕ) (e : Entry) → t k ≡ Some e → u k ≡ Some e

pub stays : (p : Program) (g h : Grown) → Grows p g h
    → Stays (entry_at p g.table) (entry_at p h.table)
stays p g h grows k e there = entry_at-stays p g h k e grows there

IsClosedEntry-stays : (p : Program) (t u : EntryAt) (e : Entry) → Stays t u → IsClosedEntry p t e
    → IsClosedEntry p u e
IsClosedEntry-stays p t u e each fine = record {
  some = fine.some;
  most = fine.most;
  steps =
      λ clock fits s m. After-weaker (EntersSmaller p t e) (EntersSmaller p u e) (step p clock s)
      (λ v g. record {
        index = g.index;
        named = g.named;
        entry = g.entry;
        there = each g.index g.entry g.there;
        smaller = g.smaller;
        member = g.member;
      })
      (fine.steps clock fits s m);
}

pub HasEntry-grows : (p : Program) (g h : Grown) (index : ℕ) (head : EntryHead) (a : State)
    → Grows p g h → HasEntry p (entry_at p g.table) index head a
    → HasEntry p (entry_at p h.table) index head a
HasEntry-grows p g h index head a grows s =
    record {
      allowed = s.allowed;
      there = entry_at-stays p g h index
          (entry_of head a) grows s.there;
    }

pub IsKnownEntry-grows : (p : Program) (g h : Grown) (a b : State) (k : Known) → Grows p g h
    → IsKnownEntry p (entry_at p g.table) a b k → IsKnownEntry p (entry_at p h.table) a b k
IsKnownEntry-grows p g h a b known.None grows s = tt
IsKnownEntry-grows p g h a b (known.First index head) grows s =
    HasEntry-grows p g h index head a grows s
IsKnownEntry-grows p g h a b (known.Second index head) grows s =
    HasEntry-grows p g h index head b grows s

pub HasStart-grows : (p : Program) (g h : Grown) (n : ℕ) → Grows p g h
    → HasStart p (entry_at p g.table) n → HasStart p (entry_at p h.table) n
HasStart-grows p g h n grows s = record {
  first = s.first;
  there = entry_at-stays p g h 0 s.first grows s.there;
  starts = s.starts;
  number_is = s.number_is;
}

pub Enters-grows : (p : Program) (g h : Grown) (number index : ℕ) (a : State) → Grows p g h
    → Enters (entry_at p g.table) number index a → Enters (entry_at p h.table) number index a
Enters-grows p g h number index a grows s = record {
  entry = s.entry;
  there = entry_at-stays p g h index s.entry grows s.there;
  smaller = s.smaller;
  covers = s.covers;
}

-- entries that were closed stay so when more are placed
pub fine_grows : (p : Program) (g h : Grown) (k : ℕ) → Grows p g h → k ≤ count_of g.table
    → AllFineBefore p (entry_at p g.table) k → AllFineBefore p (entry_at p h.table) k
fine_grows p g h k grows le before j e less there =
    let same : entry_at p h.table j ≡ entry_at p g.table j =
    entry_at-before p g h j grows (omega arith) in
    IsClosedEntry-stays p (entry_at p g.table) (entry_at p h.table) e (stays p g h grows)
    (before j e less (sym same ∙ there))
