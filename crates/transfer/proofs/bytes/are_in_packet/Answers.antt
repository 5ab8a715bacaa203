use Rattle.transfer.proofs.Common.{rules, arith, ints}
use Rattle.transfer.proofs.bytes.are_in_packet.Goals as goal

pub returns-then-proved-eq0 : goal.returns-then-proved-eq0
returns-then-proved-eq0 c = (λ t. absurd (cc), λ h. absurd (omega arith))

pub returns-then-moved_by-lt0 : goal.returns-then-moved_by-lt0
returns-then-moved_by-lt0 c = (λ t. absurd (cc), λ h. absurd (omega (arith, ints)))

pub returns-then-moved_by-from : goal.returns-then-moved_by-from
returns-then-moved_by-from c = (λ t. absurd (cc), λ h. absurd (omega (arith, ints)))

pub returns : goal.returns
returns c = (
  λ t. record { some = omega arith; from = omega (arith, ints); to = omega (arith, ints) },
  λ h. search rules,
)
