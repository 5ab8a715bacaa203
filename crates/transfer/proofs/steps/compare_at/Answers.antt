use Rattle.std.proofs.Common.{rules, refl}
use Rattle.std.proofs.lemmas.Result.{err_from_is_err_and}
use Rattle.transfer.proofs.steps.compare_at.Goals as goal

pub returns-in_err-compare_and_swap : goal.returns-in_err-compare_and_swap
returns-in_err-compare_and_swap c =
    let p = err_from_is_err_and c.from_residual.result c.from_residual.ensures.1 in
    rw (p.1, p.2) (c.compare_and_swap.new.state, search rules)

pub returns : goal.returns
returns c =
    (refl, record { left = c.compare_and_swap.new.state; leaving = search rules; next = refl })
