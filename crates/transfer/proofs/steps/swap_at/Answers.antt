use Rattle.std.proofs.Common.{rules, refl}
use Rattle.std.proofs.lemmas.Result.{err_from_is_err_and}
use Rattle.transfer.proofs.steps.swap_at.Goals as goal

pub returns-in_err-swap : goal.returns-in_err-swap
returns-in_err-swap c =
    let p = err_from_is_err_and c.from_residual.result c.from_residual.ensures.1 in
    rw (p.1, p.2) (c.swap.new.state, search rules)

pub returns : goal.returns
returns c = (refl, record { left = c.swap.new.state; leaving = search rules; next = refl })
