use Rattle.ranges.proofs.Common.{◌+◌, inl, inr, arith, ints, clamps, cases_lt}
use borrow.Author.Differences.{up, down}
use Rattle.ranges.proofs.low.Low.hull.Goals as goal

pub returns-clause-within : goal.returns-clause-within
returns-clause-within c = λ l left right. (
  omega (arith, clamps, left, right),
  omega (arith, clamps, left, right),
  omega (arith, ints, clamps, left, right),
  omega (arith, ints, clamps, left, right),
)

pub returns-clause-either : goal.returns-clause-either
returns-clause-either c =
    let a = c.args.self in
    let b = c.args.other in (
      elim (cases_lt a.least b.least)
          [ inl lt ↦ inl (omega (arith, clamps)) | inr ge ↦ inr (omega (arith, clamps)) ],
      elim (cases_lt a.greatest b.greatest)
          [ inl lt ↦ inr (omega (arith, clamps)) | inr ge ↦ inl (omega (arith, clamps)) ],
      elim (cases_lt (up a.signed_least + down b.signed_least)
          (up b.signed_least + down a.signed_least)) [
            | inl lt ↦ inl (omega (arith, ints, clamps))
            | inr ge ↦ inr (omega (arith, ints, clamps))
          ],
      elim (cases_lt (up a.signed_greatest + down b.signed_greatest)
          (up b.signed_greatest + down a.signed_greatest)) [
            | inl lt ↦ inr (omega (arith, ints, clamps))
            | inr ge ↦ inl (omega (arith, ints, clamps))
          ],
    )
