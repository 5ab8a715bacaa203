use Rattle.xdpvm.proofs.Common.{ℕ, subst, SaysSize}
use Rattle.xdpvm.proofs.proving.measured.Goals as goal

pub returns-clause-said : goal.returns-clause-said
returns-clause-said g c =
    subst
    (λ (n : ℕ). SaysSize n (g.W.Write.contents c.args.err.now)
    (g.W.Write.contents c.say_size.new.err)) c.in_ok-size.ensures.length c.say_size.ensures
