use Rattle.reg_state.proofs.Common.{inl, inr, arith, ints, ltb-true, lt-ltb}
use Rattle.reg_state.proofs.RelationsLaws.{low_half-small}
use Rattle.reg_state.proofs.comparisons.are_low_halves.Goals as goal

pub returns-clause-sound : goal.returns-clause-sound
returns-clause-sound g c = λ t x h.
    let small = ltb-true _ _ t in
    let most = c.greatest.ensures.members x h in
    let value = c.low_half_limit.ensures in
    low_half-small c.args.comparison x (omega arith)

pub returns-clause-found : goal.returns-clause-found
returns-clause-found g c = λ small.
    let value = c.low_half_limit.ensures in
    let limit = c.greatest.ensures.limit in
    let possible = c.greatest.ensures.possible in
    lt-ltb _ _ (elim small [ inl limits ↦ omega (arith, ints) | inr bits ↦ omega (arith, ints) ])
