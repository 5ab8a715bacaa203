use Rattle.std.proofs.Common.{◌≡◌, ◌∙◌, sym, None, refl, map}
use Rattle.table_entries.specs.Tables.{TableView, entry_from, first_none, all_of}
use Rattle.table_entries.proofs.EntryOrder.{KeepsEntries-places}
use Rattle.table_entries.proofs.tables.Table.of.Goals as goal

pub returns-in-None : goal.returns-in-None
returns-in-None c =
    let p = c.args.image.now in
    let t : TableView = record { bytes = c.args.bytes.now; places = c.in_ok-places.places.items } in
    let placed = c.in_ok-places.ensures in
    let xs = map (entry_from p t.bytes) t.places in
    let none : first_none 0 xs ≡ None = sym placed.first_is ∙ c.in-None.is in
    (all_of xs, rw (c.in_ok-count.ensures, placed.body, none) refl, KeepsEntries-places p t none)
