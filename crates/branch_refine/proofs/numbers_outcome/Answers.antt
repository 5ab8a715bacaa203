use Rattle.std.proofs.Common.{refl, sym, ◌∙◌}
use Rattle.stack_state.specs.Places.{kind_of}
use Rattle.branch_refine.proofs.Kept.{KeepsMembers-same, KeepsMembers-none, KeepsMembers-compared, Narrows-compared, others_compared, no_number, no_operand, just_number, just_operand}
use Rattle.branch_refine.proofs.numbers_outcome.Goals as goal

pub returns-in_default-clause-kept : goal.returns-in_default-clause-kept
returns-in_default-clause-kept c = KeepsMembers-same c.args.cond c.args.taken c.args.state.now

pub returns-in_default-operand_numbers-clause-kept :
    goal.returns-in_default-operand_numbers-clause-kept
returns-in_default-operand_numbers-clause-kept c =
    KeepsMembers-same c.args.cond c.args.taken c.args.state.now

pub returns-in_default-narrowed-clause-kept : goal.returns-in_default-narrowed-clause-kept
returns-in_default-narrowed-clause-kept c =
    KeepsMembers-none c.args.cond c.args.taken c.args.state.now c.in-Some.left
    c.in-Some-operand_numbers.right
    c.in-Some.ensures c.in-Some-operand_numbers.ensures
    (λ x y l r o. c.in_default-narrowed.ensures.none refl x y l r o)

pub returns-clause-kept : goal.returns-clause-kept
returns-clause-kept c =
    (KeepsMembers-compared c.args.cond c.args.taken c.args.state.now c.in-Some.left
    c.in-Some-operand_numbers.right
    c.in-Some-narrowed.new_left c.in-Some-narrowed.new_right
    c.in-Some.ensures c.in-Some-operand_numbers.ensures
    (λ x y l r o. c.in-Some-narrowed.ensures.narrows.common x y l r o))

pub returns-clause-narrowed : goal.returns-clause-narrowed
returns-clause-narrowed c =
    (Narrows-compared c.args.state.now c.args.cond c.in-Some.left c.in-Some-operand_numbers.right
    c.in-Some-narrowed.new_left c.in-Some-narrowed.new_right
    c.in-Some.ensures c.in-Some-operand_numbers.ensures
    c.in-Some-narrowed.ensures.narrows.left_fewer c.in-Some-narrowed.ensures.narrows.right_fewer
    c.in-Some-narrowed.ensures.narrows.left_constant
    c.in-Some-narrowed.ensures.narrows.right_constant)

pub returns-clause-others : goal.returns-clause-others
returns-clause-others c =
    (others_compared c.args.state.now c.args.cond c.in-Some-narrowed.new_left
    c.in-Some-narrowed.new_right)

pub returns-in_default-narrowed-clause-constants_go : goal.returns-in_default-narrowed-clause-constants_go
returns-in_default-narrowed-clause-constants_go c = λ x y left right goes.
    let l = just_number
    (kind_of c.args.state.now c.args.cond.register) c.in-Some.left x c.in-Some.ensures left in
    let r = just_operand c.args.state.now c.args.cond.width c.args.cond.operand
    c.in-Some-operand_numbers.right y c.in-Some-operand_numbers.ensures right in
    c.in_default-narrowed.ensures.stays x y l.0.0.below r.0.0.below l.1 r.1 goes

pub returns-clause-constants : goal.returns-clause-constants
returns-clause-constants c = λ x y left right apart.
    let l = just_number
    (kind_of c.args.state.now c.args.cond.register) c.in-Some.left x c.in-Some.ensures left in
    let r = just_operand c.args.state.now c.args.cond.width c.args.cond.operand
    c.in-Some-operand_numbers.right y c.in-Some-operand_numbers.ensures right in
    let none = c.in-Some-narrowed.ensures.constants x y l.1 r.1 apart in
    absurd (cc none)

pub returns-in_default-clause-shown : goal.returns-in_default-clause-shown
returns-in_default-clause-shown c = λ compared some.
    absurd (no_number (kind_of c.args.state.now c.args.cond.register)
    (sym c.in_default.is ∙ c.register_numbers.ensures) compared.0)

pub returns-in_default-operand_numbers-clause-shown : goal.returns-in_default-operand_numbers-clause-shown
returns-in_default-operand_numbers-clause-shown c = λ compared some.
    absurd (no_operand c.args.state.now c.args.cond.width c.args.cond.operand
    (rw c.in_default-operand_numbers.is at c.operand_numbers.ensures) compared.1)

pub returns-clause-shown : goal.returns-clause-shown
returns-clause-shown c = λ compared some. record {
  left = c.in-Some.left;
  right = c.in-Some-operand_numbers.right;
  new_left = c.in-Some-narrowed.new_left;
  new_right = c.in-Some-narrowed.new_right;
  left_is = c.in-Some.ensures;
  right_is = c.in-Some-operand_numbers.ensures;
  narrows = c.in-Some-narrowed.ensures.narrows;
  new = refl;
}

pub returns-clause-constants_go : goal.returns-clause-constants_go
returns-clause-constants_go c = λ x y left right goes. refl

pub returns-clause-never : goal.returns-clause-never
returns-clause-never c = λ stays. absurd (cc stays)
