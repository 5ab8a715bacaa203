use Rattle.std.proofs.Common.{refl, ap, arith}
use Rattle.stack_state.specs.Effects.{map_kinds, tested_kind}
use Rattle.branch_refine.proofs.Kept.{constant_has}
use Rattle.branch_refine.proofs.pointers_outcome.Goals as goal

pub returns-in-OrNull-clause-leaves : goal.returns-in-OrNull-clause-leaves
returns-in-OrNull-clause-leaves c = λ a cond.
    let zero = c.constant.result in
    let known = ap (λ null. map_kinds (tested_kind c.in-OrNull.identity null zero) a)
    c.is_same-in-OrNull.ensures in
    rw c.in-OrNull.is
    (refl, (zero, constant_has zero 0 (omega arith) c.constant.ensures, c.constant.ensures, known))
