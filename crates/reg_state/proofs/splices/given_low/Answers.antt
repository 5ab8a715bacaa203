use Rattle.reg_state.proofs.Common.{◌%◌, ◌^◌, sym, subst, arith, spliced}
use Rattle.ranges.specs.Lows as L
use Rattle.known_bits.proofs.Splices.{spliced_new_low, spliced_old_low}
use Rattle.reg_state.proofs.splices.given_low.Goals as goal

pub returns-then-from-ge32-clause-contains : goal.returns-then-from-ge32-clause-contains
returns-then-from-ge32-clause-contains c = λ x y old new.
    subst (L.Has c.args.old) (sym (spliced_old_low c.args.from c.args.count x y (omega arith))) old
