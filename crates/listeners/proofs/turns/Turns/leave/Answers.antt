use Rattle.std.proofs.Common.{refl}
use Rattle.listeners.proofs.Turning.{AreOn_shorter}
use Rattle.listeners.proofs.turns.Turns.leave.Goals as goal

pub returns-clause-on : goal.returns-clause-on
returns-clause-on c =
    λ s path e h. AreOn_shorter path s c.args.count c.args.self.now _ e c.without-self.ensures.kept
    c.without-self-2.ensures.kept refl refl h
