use Rattle.reg_state.proofs.Common.{arith, refl, subst, ℕ, ◌≡◌, ◌<◌, ◌^◌, IsSomeAnd, none-some, same_Some, bits_constant_only, bits_constant_has, range_constant_has}
use Rattle.reg_state.specs.Scalars.{Has, IsConstant}
use Rattle.reg_state.proofs.scalars.Scalar.tightened.Goals as goal

pub returns-in-Some-clause-common : goal.returns-in-Some-clause-common
returns-in-Some-clause-common c =
    λ x h. c.alone.ensures.found x h
    (bits_constant_only c.args.self.bits c.in-Some.number x
    ((c.in-Some.ensures c.in-Some.number).0 refl) h.0)

pub returns-in-Some-clause-constant : goal.returns-in-Some-clause-constant
returns-in-Some-clause-constant c = λ u h.
    let same : c.in-Some.number ≡ u = same_Some c.in-Some.number u ((c.in-Some.ensures u).1 h.0) in
    let in_range : u < 2 ^ 64 = omega arith in
    subst (λ (n : ℕ). Has c.args.self n → IsSomeAnd c.alone.result (λ s. IsConstant s n)) same
    c.alone.ensures.constant (
      bits_constant_has c.args.self.bits u in_range h.0,
      range_constant_has c.args.self.range u in_range h.1,
    )

pub returns-in-None-clause-constant : goal.returns-in-None-clause-constant
returns-in-None-clause-constant c = λ u h. absurd (none-some u ((c.in-None.ensures u).1 h.0))
