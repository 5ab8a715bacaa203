use Rattle.stack_state.proofs.Common.{◌-◌, ◌^◌, ◌<◌, ◌≤◌, w64, FitsSigned, arith, w32, Scalar, Encloses, IsAny}
use Rattle.std.proofs.lemmas.Int.{ints}
use Rattle.stack_state.proofs.slots.is_any.Goals as goal

-- whatever numbers b has are among all
any_encloses : (a b : Scalar) → b.range.wide.greatest < 2 ^ 64
    → FitsSigned w64 b.range.wide.signed_least
    → FitsSigned w64 b.range.wide.signed_greatest → b.range.low.greatest < 2 ^ 32
    → FitsSigned w32 b.range.low.signed_least
    → FitsSigned w32 b.range.low.signed_greatest → IsAny a → Encloses a b
any_encloses a b greatest signed_least signed_greatest low_greatest low_least low_most all =
    let none = all 0 (omega arith) in
    let last = all (2 ^ 64 - 1) (omega arith) in
    let least = all (2 ^ 63) (omega arith) in
    let most = all (2 ^ 63 - 1) (omega arith) in
    let from : a.range.wide.least ≤ 0 = none.1.0.from in
    let to : 2 ^ 64 - 1 ≤ a.range.wide.greatest = last.1.0.to in
    let signed_from = least.1.0.signed_from in
    let signed_to = most.1.0.signed_to in
    let half_none = all 0 (omega arith) in
    let half_last = all (2 ^ 32 - 1) (omega arith) in
    let half_least = all (2 ^ 31) (omega arith) in
    let half_most = all (2 ^ 31 - 1) (omega arith) in
    let low_from : a.range.low.least ≤ 0 = half_none.1.1.from in
    let low_to : 2 ^ 32 - 1 ≤ a.range.low.greatest = half_last.1.1.to in
    let low_signed_from = half_least.1.1.signed_from in
    let low_signed_to = half_most.1.1.signed_to in (
      λ x h. (all x h.below).0,
      (
        (omega arith, omega arith, omega (arith, ints), omega (arith, ints)),
        (omega arith, omega arith, omega (arith, ints), omega (arith, ints)),
      ),
    )

pub returns : goal.returns
returns c = (
  λ yes x h. c.covers.ensures.yes yes x ((c.any.ensures x).1 h),
  λ all. c.covers.ensures.exact.1
      (any_encloses c.args.numbers c.any.result (omega arith) (omega (arith, ints))
      (omega (arith, ints))
      (omega arith) (omega (arith, ints)) (omega (arith, ints)) all),
)
