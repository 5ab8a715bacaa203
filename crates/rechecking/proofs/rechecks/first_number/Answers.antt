use Rattle.rechecking.proofs.Common.{sym, subst, State, Covers, entry_of, entry_at}
use Rattle.state_cover.specs.FrameCover.{StateEncloses}
use Rattle.rechecking.proofs.CheckingLaws.{HasStart-covers, unclear_start}
use Rattle.rechecking.proofs.rechecks.first_number.Goals as goal

pub returns-then-covers-clause-some : goal.returns-then-covers-clause-some
returns-then-covers-clause-some c = λ n e.
    let p = c.args.image.now in
    let a = c.read.new.state in
    HasStart-covers p (entry_at p c.args.table.now)
    (entry_of c.in-Some.head a) n c.requires c.in-Some.ensures.entry
    (subst (λ (b : State). Covers p a b) c.start-start.ensures
    (c.covers.ensures.yes c.if-covers.true p)) e

pub returns-else-covers-clause-none : goal.returns-else-covers-clause-none
returns-else-covers-clause-none c = λ e.
    let p = c.args.image.now in
    unclear_start (entry_at p c.args.table.now)
    (entry_of c.in-Some.head c.read.new.state) c.covers.result c.in-Some.ensures.entry
    (λ packet null h. c.covers.ensures.encloses packet null
    (subst (λ (b : State). StateEncloses packet null c.read.new.state b)
    (sym c.start-start.ensures) h)) c.if-covers.false
