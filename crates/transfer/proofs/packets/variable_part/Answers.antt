use Rattle.transfer.proofs.Common.{◌≡◌, arith, subst, ◌-ℤ◌, FitsSigned, ints, to_z, of_z}
use mir.Syntax.{w32, w128}
use Rattle.transfer.proofs.packets.variable_part.Goals as goal

pub returns-in_err-greatest : goal.returns-in_err-greatest
returns-in_err-greatest c =
    let e : (c.args.to -ℤ c.args.fixed) ≡ to_z w128 (of_z w128 c.moved_by-2.result) =
    omega (arith, ints) in
    rw c.from_residual-in_err-greatest.ensures
    (λ h. c.in_err-greatest.ensures (subst (FitsSigned w32) e h.1))
