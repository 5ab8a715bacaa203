use Rattle.listeners.proofs.Turning.{AreOn_longer}
use Rattle.listeners.proofs.turns.Turns.arrive.Goals as goal

pub returns-else-state-slot-clause-on : goal.returns-else-state-slot-clause-on
returns-else-state-slot-clause-on c =
    λ path e h. AreOn_longer path c.args.state.now c.args.self.now h
