use Rattle.std.proofs.Common.{arith}
use Rattle.listeners.proofs.Following.{went_back}
use Rattle.listeners.proofs.explaining.Follower.go_back.Goals as goal

pub returns : goal.returns
returns c = λ how p s path last.
    went_back how _ p c.args.self.now.slots.items _ c.pop-slot.result _ _ _ s path last
    c.pop-slot.ensures.items
    (λ some. c.pop-slot.ensures.variant.1 (omega (arith, some, c.args.self.now.slots.ok.0)))
    c.leave.ensures.last
    (λ count. c.leave.ensures.on s path
    (omega (arith, count, c.len.ensures, c.pop-slot.new.self.ok.0)))
