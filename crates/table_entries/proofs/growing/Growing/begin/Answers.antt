use Rattle.table_entries.proofs.GrowingLaws.{IsBegun-first}
use Rattle.table_entries.proofs.growing.Growing.begin.Goals as goal

pub returns-in-Ok-clause-begun : goal.returns-in-Ok-clause-begun
returns-in-Ok-clause-begun c =
    λ p. rw (c.empty.ensures, c.skip.ensures)
    (IsBegun-first p c.args.bytes.now c.in-Ok.count c.in-Ok.ensures)
