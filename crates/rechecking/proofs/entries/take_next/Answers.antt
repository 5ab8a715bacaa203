use Rattle.rechecking.proofs.WeakerLaws.{Covers-same, IfSome-weaker}
use Rattle.rechecking.proofs.entries.take_next.Goals as goal

pub returns-then-next-number-clause-covers : goal.returns-then-next-number-clause-covers
returns-then-next-number-clause-covers c = λ p. Covers-same p c.args.state.now

pub returns-in-None-clause-covers : goal.returns-in-None-clause-covers
returns-in-None-clause-covers c =
    IfSome-weaker c.take_weaker.result c.args.state.now c.take_weaker.new.state
    c.take_weaker.ensures.weaker
