use Rattle.transfer.proofs.Common.{arith, inl, inr, ints}
use Rattle.transfer.proofs.packets.still_proved.Goals as goal
use Rattle.transfer.proofs.packets.still_proved.Goals.{then-proved-eq0-via-then-proved-eq0, then-proved-eq0-via-else-proved-eq0+then-left-lt0, then-proved-eq0-via-else-proved-eq0+else-left-lt0+then-left-from}

pub returns-then-proved-eq0 : goal.returns-then-proved-eq0
returns-then-proved-eq0 c =
    elim c.then-proved-eq0.branch [
      | then-proved-eq0-via-then-proved-eq0 w ↦
          record { some = λ s. absurd (omega arith); none = λ z some. absurd (omega arith) }
      | then-proved-eq0-via-else-proved-eq0+then-left-lt0 w ↦
          let below = w.if-left-lt0.true in
          record { some = λ s. absurd (omega arith); none = λ z some. inl (omega (arith, ints)) }
      | then-proved-eq0-via-else-proved-eq0+else-left-lt0+then-left-from w ↦
          let most = w.from-else-left-lt0.ensures in
          let above = w.if-left-from.true in
          record { some = λ s. absurd (omega arith); none = λ z some. inr (omega (arith, ints)) }
    ]

pub returns : goal.returns
returns c =
    let some = c.if-left-lt0.false in
    let most = c.if-left-from.false in
    record {
      some = λ s. (omega arith, omega (arith, ints));
      none = λ z before. inl (omega (arith, ints));
    }
