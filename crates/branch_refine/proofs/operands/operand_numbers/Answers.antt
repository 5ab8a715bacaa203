use Rattle.std.proofs.Common.{ℕ, ◌<◌, ◌^◌, subst, rules, arith, FitsSigned}
use Rattle.std.specs.Int.{w32}
use Rattle.std.proofs.lemmas.Int.{ints, to_z-of_z}
use Rattle.reg_state.specs.Constants.{bits_constant_has, range_constant_has}
use Rattle.reg_state.specs.Scalars.{Has, IsConstant}
use Rattle.branch_refine.proofs.operands.operand_numbers.Goals as goal

pub returns-in-Constant : goal.returns-in-Constant
returns-in-Constant c =
    let numbers = c.constant.result in
    let number = c.unsigned.result in
    let small : number < 2 ^ 64 = omega arith in
    let one = c.constant.ensures in
    let has : Has numbers number = (
      bits_constant_has numbers.bits number small one.0,
      range_constant_has numbers.range number small one.1,
    ) in
    let fits : FitsSigned w32 c.in-Constant.k = first_of (search rules, omega (arith, ints)) in
    let is = simp to_z-of_z at c.unsigned.ensures in
    rw c.in-Constant.is (subst (λ (n : ℕ). Has numbers n × IsConstant numbers n) is (has, one))
