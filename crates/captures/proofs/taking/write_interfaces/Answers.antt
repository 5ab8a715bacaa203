use Rattle.captures.proofs.Common.{subst, arith, Appends, Appends-nil, Appends-trans, interface_block, interface_blocks}
use Rattle.captures.proofs.PieceLaws.{interface_blocks-next, interface_blocks-part}
use Rattle.captures.proofs.taking.write_interfaces.Goals as goal

pub loop-init : goal.loop-init
unfolding interface_blocks
loop-init g c = Appends-nil (g.W.Write.contents c.args.output.now)

pub returns-in_err-write_bytes-clause-err : goal.returns-in_err-write_bytes-clause-err
returns-in_err-write_bytes-clause-err g c =
    interface_blocks-part c.from_residual.result _ _ _ c.loop.counter c.args.count
    (omega (arith, c.loop-test.true))
    c.loop.invariant c.in_err-write_bytes.ensures.err

pub loop-preserved : goal.loop-preserved
loop-preserved g c =
    subst (Appends _ _) (interface_blocks-next c.loop.counter)
    (Appends-trans _ _ _ (interface_blocks c.loop.counter) interface_block c.loop.invariant
    c.in_ok-write_bytes.ensures.ok)
