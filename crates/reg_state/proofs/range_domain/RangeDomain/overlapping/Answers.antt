use Rattle.reg_state.proofs.Common.{ℕ, ◌≡◌, ◌+◌, ◌-◌, ◌*◌, ◌^◌, sym, ap, ◌∙◌, inl, inr, arith, cases_lt, and_mask, pow-add, IfSome_then, Full64, low_same}
use Rattle.reg_state.proofs.range_domain.RangeDomain.overlapping.Goals as goal

-- all bits are not one
ones-not_power : (i : ℕ) → 2 ^ 64 - 1 ≡ 2 ^ i → ⊥
ones-not_power i e =
    elim (cases_lt 0 i) [
      | inl some ↦
          let s : 1 + (i - 1) ≡ i = omega arith in
          let even : 2 ^ i ≡ 2 * 2 ^ (i - 1) = ap (λ n. 2 ^ n) (sym s) ∙ pow-add 2 1 (i - 1) in
          omega arith
      | inr none ↦
          let z : i ≡ 0 = omega arith in
          let one : 2 ^ i ≡ 1 = ap (λ n. 2 ^ n) z in
          omega arith
    ]

pub returns-in-Full64-clause-common : goal.returns-in-Full64-clause-common
returns-in-Full64-clause-common c = λ x y hx hy h.
    c.overlapping.ensures.common x y hx hy
    (rw (c.in-Full64.is, low_same Full64 x hx.0.below, low_same Full64 y hy.0.below) at h)

pub returns-in-Low32-clause-common : goal.returns-in-Low32-clause-common
returns-in-Low32-clause-common c =
    λ x y hx hy h. c.low_overlapping.ensures.common x y hx hy (rw c.in-Low32.is at h)

pub returns-in-Full64-clause-left_only : goal.returns-in-Full64-clause-left_only
returns-in-Full64-clause-left_only c =
    λ full. IfSome_then c.overlapping.result c.overlapping.ensures.left
    (λ p within x i one h. absurd (ones-not_power i (sym (and_mask (2 ^ 64 - 1) 64) ∙ one)))

pub returns-in-Full64-clause-right_only : goal.returns-in-Full64-clause-right_only
returns-in-Full64-clause-right_only c =
    λ full. IfSome_then c.overlapping.result c.overlapping.ensures.right
    (λ p within y i one h. absurd (ones-not_power i (sym (and_mask (2 ^ 64 - 1) 64) ∙ one)))

pub returns-in-Low32-clause-left_only : goal.returns-in-Low32-clause-left_only
returns-in-Low32-clause-left_only c =
    λ full. IfSome_then c.low_overlapping.result c.low_overlapping.ensures.left
    (λ p within x i one h. absurd (ones-not_power i (sym (and_mask (2 ^ 64 - 1) 64) ∙ one)))

pub returns-in-Low32-clause-right_only : goal.returns-in-Low32-clause-right_only
returns-in-Low32-clause-right_only c =
    λ full. IfSome_then c.low_overlapping.result c.low_overlapping.ensures.right
    (λ p within y i one h. absurd (ones-not_power i (sym (and_mask (2 ^ 64 - 1) 64) ∙ one)))
