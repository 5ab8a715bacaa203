use Rattle.std.proofs.Common.{arith}
use Rattle.state_index.proofs.parts.are_blank.Goals as goal

pub returns-then-is_empty_in : goal.returns-then-is_empty_in
returns-then-is_empty_in c = λ yes j low high.
    c.requires.blank j (omega (arith, high, c.requires.inside))
    (c.is_empty_in.ensures.none c.if-is_empty_in.true j low high)
