use Rattle.rechecking.proofs.Common.{refl, length, entry_at}
use Rattle.rechecking.proofs.CheckingLaws.{Enters-same, Enters-covering, unclear_covers, unclear_number}
use Rattle.rechecking.proofs.WeakerLaws.{Enters-weaker}
use Rattle.rechecking.proofs.entries.enters_placed.Goals as goal

pub returns-then-not-is_smaller-clause-none : goal.returns-then-not-is_smaller-clause-none
returns-then-not-is_smaller-clause-none c = λ none.
    let p = c.args.image.now in
    unclear_number (entry_at p c.args.table.now) c.args.number c.args.index c.args.state.now
    c.is_smaller.result (c.is_smaller.ensures.no p) c.if-not-is_smaller.true

pub returns-in-Some-clause-yes : goal.returns-in-Some-clause-yes
returns-in-Some-clause-yes c =
    let p = c.args.image.now in
    Enters-same p (entry_at p c.args.table.now) c.args.number c.args.index c.args.state.now
    c.in-Some.head
    (record { allowed = c.in-Some.ensures.allowed; there = c.in-Some.ensures.entry })
    (c.is_smaller.ensures.yes c.if-not-is_smaller.false p)

pub returns-in-Some-head_of_weaker-clause-yes : goal.returns-in-Some-head_of_weaker-clause-yes
returns-in-Some-head_of_weaker-clause-yes c =
    let p = c.args.image.now in
    let found = c.in-Some-head_of_weaker in
    Enters-weaker (entry_at p c.args.table.now) c.args.number c.args.index found.weaker
    c.args.state.now c.head_of_weaker.new.state found.ensures.entry
    (c.is_smaller.ensures.yes c.if-not-is_smaller.false p) found.ensures.weaker

pub returns-in_err-head-clause-none : goal.returns-in_err-head-clause-none
returns-in_err-head-clause-none c = λ none.
    unclear_covers (entry_at c.args.image.now c.args.table.now) c.args.number c.args.index
    c.args.state.now
    (rw (c.head_of_weaker.ensures.left c.in_default-head_of_weaker.is) at
    (c.in_err-head.ensures.none refl))

pub returns-clause-spelled : goal.returns-clause-spelled
returns-clause-spelled c =
    c.forget.ensures (length c.args.image.now.maps) c.read_covering.new.room

pub returns-clause-yes : goal.returns-clause-yes
returns-clause-yes c =
    let p = c.args.image.now in
    Enters-covering (entry_at p c.args.table.now) c.args.number c.args.index c.args.state.now
    (rw (c.head_of_weaker.ensures.left c.in_default-head_of_weaker.is) at
    c.in_ok-head.ensures.covers)
    (c.is_smaller.ensures.yes c.if-not-is_smaller.false p)
