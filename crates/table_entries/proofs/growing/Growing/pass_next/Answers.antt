use Rattle.table_entries.proofs.Common.{◌≡◌, Ok, true, subst, entry_in, seen, Grown}
use Rattle.table_entries.proofs.GrowingLaws.{Grows-placed, passed_over}
use Rattle.table_entries.proofs.growing.Growing.pass_next.Goals as goal

pub returns-in-Ok-true-default-clause-grows : goal.returns-in-Ok-true-default-clause-grows
returns-in-Ok-true-default-clause-grows c =
    let p = c.args.image.now in
    let after = c.in-Ok-true-default.after.now in
    let passed =
    subst (λ (v : Grown). seen (entry_in p v.rest) ≡ Ok (true, after)) c.self.view_is
    (rw c.in-Ok-true-default.field-0-0-test at c.in-Ok-true-default.ensures.read) in
    let found = passed_over p c.args.self.now.rest after passed in
    Grows-placed p c.args.self.now c.place.new.self found.0 after c.place.result c.requires.more
    found.1 c.place.ensures.placed c.place.ensures.left
