use Rattle.reg_state.proofs.Common.{◌<◌, ◌^◌, subst, arith, Has}
use Rattle.reg_state.proofs.RelationsLaws.{signed_half-small}
use Rattle.reg_state.proofs.low_bits.with_signed.Goals as goal

pub returns-then-greatest-lt2147483648-clause-common : goal.returns-then-greatest-lt2147483648-clause-common
returns-then-greatest-lt2147483648-clause-common c = λ x h halves.
    let most = c.greatest.ensures.limit x h in
    let small : x < 2 ^ 31 = omega arith in
    c.meet.ensures.common x h (subst (Has c.args.halves) (signed_half-small x small) halves)
