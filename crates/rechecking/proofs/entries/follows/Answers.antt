use Rattle.rechecking.proofs.Common.{rules, IfSome_then, entry_at, Grows-same, Grows-then, MayGrow-more}
use Rattle.rechecking.proofs.CheckingLaws.{FollowsBy-two}
use Rattle.rechecking.proofs.GrowingLaws.{Enters-grows}
use Rattle.rechecking.proofs.entries.follows.Goals as goal

pub returns-in-None-None-clause-grows : goal.returns-in-None-None-clause-grows
returns-in-None-None-clause-grows c = Grows-same c.args.image.now c.args.growing.now

pub returns-in-None-None-clause-yes : goal.returns-in-None-None-clause-yes
returns-in-None-None-clause-yes c = search rules

pub returns-in-One-One-clause-yes : goal.returns-in-One-One-clause-yes
returns-in-One-One-clause-yes c = search rules

pub returns-in_err-enters-in-Two-Two-clause-none : goal.returns-in_err-enters-in-Two-Two-clause-none
returns-in_err-enters-in-Two-Two-clause-none c = search rules

pub returns-in_ok-enters-in-Two-Two-clause-yes : goal.returns-in_ok-enters-in-Two-Two-clause-yes
returns-in_ok-enters-in-Two-Two-clause-yes c =
    let p = c.args.image.now in
    let g = c.enters-in-Two-Two.new.growing in
    let h = c.enters-in-Two-Two-2.new.growing in
    let names = c.in-Two-Two in
    IfSome_then c.enters-in-Two-Two-2.result c.enters-in-Two-Two-2.ensures.yes
    (λ known first. FollowsBy-two (entry_at p h.table) c.args.head.number names.first names.second
    c.args.head.named c.args.ways c.args.state.now c.args.other.now names.is-0 names.is-1 first
    (Enters-grows p g h c.args.head.number names.second c.args.other.now
    c.enters-in-Two-Two-2.ensures.grows c.in_ok-enters-in-Two-Two.ensures.yes))

pub returns-in_ok-enters-in-Two-Two-clause-grows : goal.returns-in_ok-enters-in-Two-Two-clause-grows
returns-in_ok-enters-in-Two-Two-clause-grows c =
    Grows-then c.args.image.now c.args.growing.now c.enters-in-Two-Two.new.growing
    c.enters-in-Two-Two-2.new.growing c.enters-in-Two-Two.ensures.grows
    c.enters-in-Two-Two-2.ensures.grows

pub enters-requires-in-Two-Two-2-clause-may : goal.enters-requires-in-Two-Two-2-clause-may
enters-requires-in-Two-Two-2-clause-may c =
    MayGrow-more c.args.image.now c.args.growing.now c.enters-in-Two-Two.new.growing
    c.enters-in-Two-Two.ensures.grows c.requires.may
