use Rattle.stack_state.proofs.Common.{arith, ◌≤◌, ◌+◌, ◌^◌, ℕ, pow-le-pow_right}
use Rattle.stack_state.proofs.slots.mask.Goals as goal

pow_le : (a b : ℕ) → a ≤ b → 2 ^ a ≤ 2 ^ b
pow_le a b h = pow-le-pow_right (omega arith) h

pub overflow_sub-result : goal.overflow_sub-result
overflow_sub-result c =
    let a = pow_le c.args.from (c.args.from + c.args.bytes) (omega arith) in
    let b = pow_le (c.args.from + c.args.bytes) 8 c.requires in
    omega arith

pub returns : goal.returns
returns c =
    let a = pow_le c.args.from (c.args.from + c.args.bytes) (omega arith) in
    let b = pow_le (c.args.from + c.args.bytes) 8 c.requires in
    omega arith
