use Rattle.table_entries.proofs.Common.{◌≡◌, Some, None, Ok, Err, drop, subst, arith, slice_get, MatchOption, option_map, EntryHead, entry_in, entry_of, TableView, entry_at}
use Rattle.table_entries.proofs.Numbers.{allowed-in, read-at, stop-at, found-at}
use Rattle.table_entries.proofs.tables.Table.read.Goals as goal

pub returns-in-Ok-clause-allowed : goal.returns-in-Ok-clause-allowed
returns-in-Ok-clause-allowed c = λ head h.
    let bytes = c.bytes_from.result.now in
    let read : entry_in c.args.image.now bytes
    ≡ Ok (Some (entry_of head c.read_entry.new.state), c.in-Ok.field-0-1.now) =
    rw h at c.in-Ok.ensures in
    allowed-in c.args.image.now bytes
    (entry_of head c.read_entry.new.state) c.in-Ok.field-0-1.now read

pub returns-in-Ok-clause-entry : goal.returns-in-Ok-clause-entry
returns-in-Ok-clause-entry c =
    let p = c.args.image.now in
    let t : TableView =
    record { bytes = c.self.inside.bytes.now; places = c.self.inside.places.items } in
    let place = c.in_ok-place.field-0.now in
    let found = c.in_ok-place.ensures.lookup in
    let there : slice_get t.places c.args.index ≡ Some place =
    found-at t.places c.deref.result.now c.args.index place c.deref.ensures.value
    (omega arith) found.1 in
    let read : entry_in p (drop place t.bytes)
    ≡ Ok (
      option_map
          (λ (h : EntryHead). entry_of h c.read_entry.new.state) c.in-Ok.head,
      c.in-Ok.field-0-1.now,
    ) =
    rw c.bytes_from.ensures at c.in-Ok.ensures in
    subst (λ (v : TableView). MatchOption c.in-Ok.head (entry_at p v c.args.index ≡ None)
    (λ head. entry_at p v c.args.index ≡ Some (entry_of head c.read_entry.new.state)))
    c.self.view_is (read-at p t c.args.index place c.in-Ok.head c.read_entry.new.state
    c.in-Ok.field-0-1.now there read)

pub returns-in-Err-clause-entry : goal.returns-in-Err-clause-entry
returns-in-Err-clause-entry c =
    let p = c.args.image.now in
    let t : TableView =
    record { bytes = c.self.inside.bytes.now; places = c.self.inside.places.items } in
    let place = c.in_ok-place.field-0.now in
    let found = c.in_ok-place.ensures.lookup in
    let there : slice_get t.places c.args.index ≡ Some place =
    found-at t.places c.deref.result.now c.args.index place c.deref.ensures.value
    (omega arith) found.1 in
    let read : entry_in p (drop place t.bytes) ≡ Err c.in-Err.field-0 =
    rw c.bytes_from.ensures at c.in-Err.ensures in
    subst (λ (v : TableView). entry_at p v c.args.index ≡ None) c.self.view_is
    (stop-at p t c.args.index place c.in-Err.field-0 there read)
