use Rattle.reg_state.proofs.Numbers.{if_some}
use Rattle.reg_state.specs.Constants.{bits_constant_only}
use Rattle.reg_state.proofs.bits_domain.BitsDomain.number.Goals as goal

pub returns-clause-constant : goal.returns-clause-constant
returns-clause-constant c = λ u h. (c.number.ensures u).1 h

pub returns-clause-only : goal.returns-clause-only
returns-clause-only c =
    if_some c.number.result _
    (λ n e x h. bits_constant_only c.args.self n x ((c.number.ensures n).0 e) h)
