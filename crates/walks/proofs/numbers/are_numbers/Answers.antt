use Rattle.walks.proofs.Common.{◌≡◌, Some, length, refl, sym, ◌∙◌, subst, arith, rules, iff_false, R10, reg_numbered, kind_at, IsNumberKind, number_of}
use Rattle.walks.proofs.NumberLoops.{kind_read, numbers_more}
use Rattle.walks.proofs.numbers.are_numbers.Goals as goal
use Rattle.walks.proofs.numbers.are_numbers.Goals.{else-has-2-via-then-has-2+else-not-is_number, else-has-2-via-else-has-2}

pub returns-then-has : goal.returns-then-has
returns-then-has c = (
  λ yes. absurd (cc yes),
  λ all. absurd ((all R10 (c.has.ensures.0 c.if-has.true)).0 refl),
)

-- one of them is no number
pub returns-then-not-is_number : goal.returns-then-not-is_number
returns-then-not-is_number c = (
  λ yes. absurd (cc yes),
  λ all.
      let kinds = c.args.registers.now in
      let n = c.loop-number.number in
      let r = c.in-Some.register in
      let found : Some r ≡ reg_numbered n = sym c.in-Some.is ∙ c.numbered.ensures in
      let is = number_of n r (omega arith) found in
      let ten : length kinds ≡ 10 = search rules in
      let number : IsNumberKind (kind_at kinds n) =
      subst (λ k. IsNumberKind (kind_at kinds k)) is
      (all r (c.has-in-loop-number.ensures.0 c.if-has-2.true)).1 in
      absurd (iff_false c.is_number.ensures c.if-not-is_number.true
      (subst IsNumberKind (kind_read kinds n c.from.result _ c.from.ensures (omega (arith, ten)))
      number)),
)

pub loop-number-preserved : goal.loop-number-preserved
loop-number-preserved c =
    let kinds = c.args.registers.now in
    let n = c.loop-number.number in
    let r = c.in-Some.register in
    let found : Some r ≡ reg_numbered n = sym c.in-Some.is ∙ c.numbered.ensures in
    let is = number_of n r (omega arith) found in
    let ten : length kinds ≡ 10 = search rules in
    numbers_more c.args.live kinds n r is (λ has. elim c.else-has-2.branch [
      | else-has-2-via-then-has-2+else-not-is_number w ↦
          subst IsNumberKind
          (sym (kind_read kinds n w.from.result _ w.from.ensures (omega (arith, ten))))
          (w.is_number.ensures.0 w.if-not-is_number.false)
      | else-has-2-via-else-has-2 w ↦
          absurd (iff_false c.has-in-loop-number.ensures w.if-has-2.false has)
    ]) c.loop-number.invariant
