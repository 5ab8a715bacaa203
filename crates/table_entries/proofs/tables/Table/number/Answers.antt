use Rattle.table_entries.proofs.Common.{◌≡◌, Some, sym, subst, arith, slice_get, TableView, entry_at}
use Rattle.table_entries.proofs.Numbers.{number-at, short-at, found-at}
use Rattle.table_entries.proofs.tables.Table.number.Goals as goal

pub returns-clause-number : goal.returns-clause-number
returns-clause-number c = λ p e h.
    let t : TableView =
    record { bytes = c.self.inside.bytes.now; places = c.self.inside.places.items } in
    let found = c.in_ok-place.ensures.lookup in
    let there : slice_get c.self.inside.places.items c.args.index ≡ Some c.in_ok-place.field-0.now =
    found-at c.self.inside.places.items c.deref.result.now c.args.index c.in_ok-place.field-0.now
    c.deref.ensures.value (omega arith) found.1 in
    let read : entry_at p t c.args.index ≡ Some e =
    subst (λ (v : TableView). entry_at p v c.args.index ≡ Some e) (sym c.self.view_is) h in
    rw (c.u32_at.ensures, c.bytes_from-bytes.ensures)
    (number-at p t c.args.index c.in_ok-place.field-0.now e there read)

pub returns-then-bytes-lt4-clause-number : goal.returns-then-bytes-lt4-clause-number
returns-then-bytes-lt4-clause-number c = λ p e h.
    let t : TableView =
    record { bytes = c.self.inside.bytes.now; places = c.self.inside.places.items } in
    let found = c.in_ok-place.ensures.lookup in
    let there : slice_get c.self.inside.places.items c.args.index ≡ Some c.in_ok-place.field-0.now =
    found-at c.self.inside.places.items c.deref.result.now c.args.index c.in_ok-place.field-0.now
    c.deref.ensures.value (omega arith) found.1 in
    let read : entry_at p t c.args.index ≡ Some e =
    subst (λ (v : TableView). entry_at p v c.args.index ≡ Some e) (sym c.self.view_is) h in
    absurd (short-at p t c.args.index c.in_ok-place.field-0.now e there
    (rw (← c.bytes_from-bytes.ensures) c.if-bytes-lt4.true) read)
