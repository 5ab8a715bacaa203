use Rattle.reg_state.proofs.Common.{ℕ, ◌≡◌, subst, sym, IsSomeAnd, IfSome_then, Has, low, Low32, Full64, low_same}
use Rattle.reg_state.proofs.bits_domain.BitsDomain.equal.Goals as goal

pub returns-in-Full64-clause-common : goal.returns-in-Full64-clause-common
returns-in-Full64-clause-common c = λ x y hx hy h.
    let e : x ≡ y =
    rw (c.in-Full64.is, low_same Full64 x hx.below, low_same Full64 y hy.below) at h in
    subst (λ (n : ℕ). IsSomeAnd c.same.result (λ p. Has p.0 x × Has p.1 n)) e
    (c.same.ensures.common x hx (subst (Has c.args.other) (sym e) hy))

pub returns-in-Full64-clause-left : goal.returns-in-Full64-clause-left
returns-in-Full64-clause-left c =
    IfSome_then c.same.result c.same.ensures.left (λ p within x h. (within x h).0)

pub returns-in-Full64-clause-right : goal.returns-in-Full64-clause-right
returns-in-Full64-clause-right c =
    IfSome_then c.same.result c.same.ensures.right (λ p within y h. (within y h).1)

pub returns-in-Full64-clause-left_allowed : goal.returns-in-Full64-clause-left_allowed
returns-in-Full64-clause-left_allowed c =
    rw c.in-Full64.is (IfSome_then c.same.result c.same.ensures.left
    (λ p within x h. subst (Has c.args.other) (sym (low_same Full64 x h.below)) (within x h).1))

pub returns-in-Full64-clause-right_allowed : goal.returns-in-Full64-clause-right_allowed
returns-in-Full64-clause-right_allowed c =
    rw c.in-Full64.is (IfSome_then c.same.result c.same.ensures.right
    (λ p within y h. subst (Has c.args.self) (sym (low_same Full64 y h.below)) (within y h).0))

pub returns-in-Low32-clause-common : goal.returns-in-Low32-clause-common
returns-in-Low32-clause-common c = λ x y hx hy h.
    let e : low Low32 x ≡ low Low32 y = rw c.in-Low32.is at h in
    let ly = c.plain_halves-in-Low32.ensures y hy in
    let both = c.same-in-Low32.ensures.common (low Low32 x) (c.plain_halves.ensures x hx)
    (subst (Has c.plain_halves-in-Low32.result) (sym e) ly) in
    c.plain_pair.ensures.common x y hx hy
    (subst (λ (n : ℕ). IsSomeAnd c.same-in-Low32.result (λ p. Has p.0 (low Low32 x) × Has p.1 n)) e
    both)

pub returns-in-Low32-clause-left_allowed : goal.returns-in-Low32-clause-left_allowed
returns-in-Low32-clause-left_allowed c =
    rw c.in-Low32.is
    (IfSome_then c.plain_pair.result c.plain_pair.ensures.left (λ p within x h. tt))

pub returns-in-Low32-clause-right_allowed : goal.returns-in-Low32-clause-right_allowed
returns-in-Low32-clause-right_allowed c =
    rw c.in-Low32.is
    (IfSome_then c.plain_pair.result c.plain_pair.ensures.right (λ p within y h. tt))
