use Rattle.std.proofs.Common.{arith, refl, rules}
use Rattle.proof_table.proofs.FittingLaws.{FrameFits-said}
use Rattle.proof_table.proofs.fitting.frame_fits.Goals as goal

pub returns : goal.returns
returns c =
    FrameFits-said c.args.rows c.args.holder c.args.outer c.args.frame.now c.stack_slots_fit.result
    (omega arith) c.kinds_fit.ensures.count
    (rw (← c.slots.ensures) c.stack_slots_fit.ensures.count) (search rules)
    (c.if-not-kinds_fit.ensures.fit.0 refl)
    (rw (← c.slots.ensures) c.stack_slots_fit.ensures.fit)
