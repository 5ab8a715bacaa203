use Rattle.kept_states.proofs.Common.{arith, w32, to_z-of_z}
use Rattle.kept_states.proofs.EarlierLaws.{same_put, signed_put}
use Rattle.kept_states.proofs.signed_limits.put_low_signed.Goals as goal

pub returns : goal.returns
returns c =
    let was = c.args.was in
    let there = c.args.there in
    signed_put w32 c.in_ok-which.which
    (same_put c.in_ok-which.which _ _ _ _ was.signed_least was.signed_greatest
    there.signed_least there.signed_greatest _ _
    (to_z-of_z w32 was.signed_least (omega arith))
    (to_z-of_z w32 was.signed_greatest (omega arith))
    (to_z-of_z w32 there.signed_least (omega arith))
    (to_z-of_z w32 there.signed_greatest (omega arith)) c.in_ok-which.ensures)
