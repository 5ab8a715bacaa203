use Rattle.std.proofs.Common.{refl}
use Rattle.listeners.proofs.Turning.{AreOn_turned}
use Rattle.listeners.proofs.turns.Turns.come.Goals as goal

pub returns-clause-on : goal.returns-clause-on
returns-clause-on c =
    λ path e h. AreOn_turned path c.args.state.now c.args.count _ e c.copy_from.ensures refl
    (c.set_aside.ensures.earlier path h)
