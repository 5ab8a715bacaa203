use Rattle.rechecking.proofs.Common.{entry_at, Grows-then, MayGrow-more}
use Rattle.rechecking.proofs.WeakerLaws.{Enters-covers}
use Rattle.rechecking.proofs.entries.enters.Goals as goal

pub returns-in-Some-clause-yes : goal.returns-in-Some-clause-yes
returns-in-Some-clause-yes c =
    Enters-covers c.args.image.now (entry_at c.args.image.now c.take_next.new.growing.table)
    c.args.number c.args.index c.in-Some.next c.args.state.now c.take_next.new.state
    c.in-Some.ensures.entry c.in-Some.ensures.number c.in-Some.ensures.covers

pub reach-there-requires : goal.reach-there-requires
reach-there-requires c =
    MayGrow-more c.args.image.now c.args.growing.now c.take_next.new.growing
    c.take_next.ensures.grows c.requires.may

pub returns-clause-grows : goal.returns-clause-grows
returns-clause-grows c =
    Grows-then c.args.image.now c.args.growing.now c.take_next.new.growing c.reach-there.new.self
    c.take_next.ensures.grows c.reach-there.ensures.grows
