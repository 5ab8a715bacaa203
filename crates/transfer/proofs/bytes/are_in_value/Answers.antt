use Rattle.transfer.proofs.Common.{rules, arith, ints}
use Rattle.transfer.proofs.bytes.are_in_value.Goals as goal

pub returns-then-sum-lt0 : goal.returns-then-sum-lt0
returns-then-sum-lt0 c = (λ t. absurd (cc), λ h. absurd (omega (arith, ints)))

pub returns-then-moved_by-from : goal.returns-then-moved_by-from
returns-then-moved_by-from c = (λ t. absurd (cc), λ h. absurd (omega (arith, ints)))

pub returns : goal.returns
returns c = (
  λ t. record { from = omega (arith, ints); to = omega (arith, ints) },
  λ h. search rules,
)
