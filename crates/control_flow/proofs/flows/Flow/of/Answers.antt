use Rattle.control_flow.proofs.Common.{err_from_is_err_and, TargetOutside}
use Rattle.control_flow.proofs.FlowLaws.{IsFlow-Fails}
use Rattle.control_flow.proofs.Whole.{only_memory}
use Rattle.control_flow.proofs.flows.Flow.of.Goals as goal

pub returns-in_err-test_all-clause-only : goal.returns-in_err-test_all-clause-only
returns-in_err-test_all-clause-only c = λ flow.
    let refusal = c.in_err-test_all.field-0.0 in
    let given = err_from_is_err_and c.from_residual.result c.from_residual.ensures.1 in
    rw (given.1, given.2)
    (only_memory c.args.image.now refusal.0 refusal.1 flow c.in_err-test_all.ensures.refused)

pub joins_of-requires : goal.joins_of-requires
joins_of-requires c =
    λ slot h. IsFlow-Fails c.args.image.now TargetOutside slot c.in_ok-test_all.ensures.good h

pub live_homes-requires-clause-inside : goal.live_homes-requires-clause-inside
live_homes-requires-clause-inside c =
    λ slot h. IsFlow-Fails c.args.image.now TargetOutside slot c.in_ok-test_all.ensures.good h

pub numbers_of-requires-clause-inside : goal.numbers_of-requires-clause-inside
numbers_of-requires-clause-inside c =
    λ slot h. IsFlow-Fails c.args.image.now TargetOutside slot c.in_ok-test_all.ensures.good h
