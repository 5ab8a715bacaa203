use Rattle.table_entries.proofs.Common.{◌≡◌, Some, subst, arith, slice_get, entry_of, TableView, entry_at}
use Rattle.table_entries.proofs.Numbers.{allowed-in, read-at, found-at}
use Rattle.table_entries.proofs.tables.Table.head_of.Goals as goal

pub returns-clause-allowed : goal.returns-clause-allowed
returns-clause-allowed c =
    allowed-in c.args.image.now c.bytes_from.result.now
    (entry_of c.in_ok-head.head c.args.state.now) _ c.in_ok-head.ensures.after

pub returns-clause-entry : goal.returns-clause-entry
returns-clause-entry c =
    let p = c.args.image.now in
    let t : TableView =
    record { bytes = c.self.inside.bytes.now; places = c.self.inside.places.items } in
    let place = c.in_ok-place.field-0.now in
    let a = c.args.state.now in
    let found = c.in_ok-place.ensures.lookup in
    let there : slice_get t.places c.args.index ≡ Some place =
    found-at t.places c.deref.result.now c.args.index place c.deref.ensures.value
    (omega arith) found.1 in
    subst (λ (v : TableView). entry_at p v c.args.index ≡ Some (entry_of c.in_ok-head.head a))
    c.self.view_is
    (read-at p t c.args.index place (Some c.in_ok-head.head) a _ there
    (rw c.bytes_from.ensures at c.in_ok-head.ensures.after))
