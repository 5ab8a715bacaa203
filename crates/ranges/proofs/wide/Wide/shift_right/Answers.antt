use Rattle.isa_model.proofs.NumberLaws.{div_mono}
use Rattle.ranges.proofs.wide.Wide.shift_right.Goals as goal

pub returns-clause-contains : goal.returns-clause-contains
returns-clause-contains c =
    λ x hx. (c.between.ensures.members _).1
    (div_mono _ x c.args.by hx.from, div_mono x _ c.args.by hx.to)
