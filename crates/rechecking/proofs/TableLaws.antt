-- Every run of a program with a closed table exits within the number of the table's first entry.
use Rattle.rechecking.proofs.Common.{◌≡◌, ℕ, zero, suc, ◌≤◌, Some, arith, Program, step, After-weaker, Within, Entry, EntryAt, EntersSmaller, IsClosedEntry, IsClosed}
use Rattle.isa_model.specs.Running.Runs.{start_state}
use Rattle.isa_model.specs.Running.Ends.{Ends}
use Rattle.isa_model.specs.Running.Outcomes.{StartsEnd}

-- each member of an entry's state exits within the entry's number
pub Within-entry : (p : Program) (t : EntryAt)
    → ((k : ℕ) (e : Entry) → t k ≡ Some e → IsClosedEntry p t e) → (n k : ℕ) (e : Entry)
    → t k ≡ Some e → e.number ≤ n
    → Within p e.state n
unfolding Within Ends
Within-entry p t each zero k e at le = absurd (let some = (each k e at).some in omega arith)
Within-entry p t each (suc n) k e at le = λ clock fits s m.
    After-weaker (EntersSmaller p t e) (λ u. Ends p clock u n) (step p clock s)
    (λ u g. let smaller = g.smaller in Within-entry p t each n g.index g.entry g.there
    (omega arith) clock fits u g.member)
    ((each k e at).steps clock fits s m)

pub StartsEnd-closed : (p : Program) (t : EntryAt) (c : IsClosed p t) → StartsEnd p c.first.number
unfolding StartsEnd Within
StartsEnd-closed p t c = λ clock head packet contents fits given.
    Within-entry p t c.each c.first.number 0 c.first c.at_first (omega arith) clock fits
    (start_state head packet contents) (c.starts head packet contents given)
