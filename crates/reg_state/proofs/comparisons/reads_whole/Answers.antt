use Rattle.reg_state.proofs.RelationsLaws.{goes_whole}
use Rattle.reg_state.proofs.comparisons.reads_whole.Goals as goal

pub returns-then-are_low_halves-clause-sound : goal.returns-then-are_low_halves-clause-sound
returns-then-are_low_halves-clause-sound g c = λ yes x y hx hy t e.
    goes_whole c.args.comparison t x y
    (c.are_low_halves.ensures.sound c.if-are_low_halves.true x hx)
    (c.are_low_halves-then-are_low_halves.ensures.sound yes y hy) e
