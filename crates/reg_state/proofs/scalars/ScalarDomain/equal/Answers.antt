use Rattle.reg_state.proofs.Common.{ℕ, IfSome_then, Low32, Full64, bits_allows, range_allows, allows}
use Rattle.isa_model.specs.declared.sizes.Width.{Width}
use Rattle.reg_state.specs.declared.scalars.Scalar.{Scalar}
use Rattle.reg_state.proofs.scalars.ScalarDomain.equal.Goals as goal

-- what both the bits and the range allow
both_allow : (w : Width) (s : Scalar) (x : ℕ) → bits_allows w s.bits x → range_allows w s.range x
    → allows w s x
both_allow Full64 s x b r = (b, r)
both_allow Low32 s x b r = r

pub returns-clause-common : goal.returns-clause-common
returns-clause-common c = λ x y hx hy h.
    let b = c.in_ok-bits.ensures.common x y hx.0 hy.0 h in
    let r = c.in_ok-ranges.ensures.common x y hx.1 hy.1 h in
    c.paired.ensures.common x y b.0 r.0 b.1 r.1

pub returns-clause-left_allowed : goal.returns-clause-left_allowed
returns-clause-left_allowed c =
    IfSome_then c.paired.result c.paired.ensures.left
    (λ p within x h.
    let w = within x h in
    both_allow c.args.width c.args.other _ (c.in_ok-bits.ensures.left_allowed x w.0)
    (c.in_ok-ranges.ensures.left_allowed x w.1))

pub returns-clause-right_allowed : goal.returns-clause-right_allowed
returns-clause-right_allowed c =
    IfSome_then c.paired.result c.paired.ensures.right
    (λ p within y h.
    let w = within y h in
    both_allow c.args.width c.args.self _ (c.in_ok-bits.ensures.right_allowed y w.0)
    (c.in_ok-ranges.ensures.right_allowed y w.1))
