use Rattle.listeners.proofs.Following.{anew}
use Rattle.listeners.proofs.explaining.FollowerListener.begins_anew.Goals as goal

pub returns : goal.returns
returns c = λ how next p path last h.
    anew next how _ p c.args.self.now.slots.items _ _ _ _ path last c.clear.ensures.items
    c.new-self.ensures h
