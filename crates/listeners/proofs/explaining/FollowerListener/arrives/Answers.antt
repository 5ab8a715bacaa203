use Rattle.std.proofs.Common.{rules}
use Rattle.listeners.proofs.Following.{arrived, count_of}
use Rattle.listeners.proofs.explaining.FollowerListener.arrives.Goals as goal

pub returns : goal.returns
returns c = λ how p path last comes h.
    let count = count_of how _ p _ _ _ path last h in
    arrived how _ p _ _ _ _ _ path last c.args.state.now (search rules) c.arrive.ensures.last
    (c.arrive.ensures.on path (search rules)) comes h
