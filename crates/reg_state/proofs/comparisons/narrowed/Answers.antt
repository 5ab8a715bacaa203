use Rattle.reg_state.proofs.RelationsLaws.{goes}
use Rattle.isa_model.specs.declared.sizes.Width.TheVariants.{Full64}
use Rattle.reg_state.proofs.comparisons.narrowed.Goals as goal

pub returns-in-Full64-clause-common : goal.returns-in-Full64-clause-common
returns-in-Full64-clause-common g c = λ x y hx hy e.
    c.related_whole.ensures.common x y hx hy
    (goes c.args.comparison Full64 c.args.taken x y (rw c.in-Full64.is at e))

pub returns-in-Low32-clause-common : goal.returns-in-Low32-clause-common
returns-in-Low32-clause-common g c =
    λ x y hx hy e. c.related_low.ensures.common x y hx hy (rw c.in-Low32.is at e)

pub returns-in-Low32-clause-whole : goal.returns-in-Low32-clause-whole
returns-in-Low32-clause-whole g c = λ whole. c.related_low.ensures.whole (rw c.in-Low32.is at whole)
