use Rattle.rechecking.proofs.Common.{entry_of, entry_at}
use Rattle.rechecking.proofs.CheckingLaws.{unclear_entry}
use Rattle.rechecking.proofs.entries.read_covering.Goals as goal

pub returns-else-covers-clause-none : goal.returns-else-covers-clause-none
returns-else-covers-clause-none c = λ none.
    unclear_entry (entry_at c.args.image.now c.args.table.now) c.args.index c.args.state.now
    (entry_of c.in_ok-head.head c.read.new.state) c.covers.result
    c.in_ok-head.ensures.entry c.covers.ensures.encloses c.if-covers.false
