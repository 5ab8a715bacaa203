use Rattle.known_bits.proofs.Common.{arith, bit_xor, sym, ap, ◌∙◌, eqb-true, eq-eqb, Bits}
use Rattle.known_bits.proofs.Members.{is_apart}
use Rattle.known_bits.proofs.Logic.{without}
use Rattle.known_bits.proofs.Order.{covers_contains, without_self, without_same, included_mask, included_value}
use Rattle.known_bits.proofs.bits.Bits.covers.Goals as goal

pub returns-then-other-self-eq0-clause-inclusion : goal.returns-then-other-self-eq0-clause-inclusion
returns-then-other-self-eq0-clause-inclusion c =
    let ka = is_apart c.args.self (omega arith) (omega arith) in
    let kb = is_apart c.args.other (omega arith) (omega arith) in (
      λ same x hx. covers_contains ka kb c.if-other-self-eq0.true (eqb-true _ 0 same) x hx,
      λ within. eq-eqb _ 0 (included_value ka kb within),
    )

pub returns-then-other-self-eq0-clause-equal : goal.returns-then-other-self-eq0-clause-equal
returns-then-other-self-eq0-clause-equal c = λ e.
    eq-eqb _ 0 (ap (λ (b : Bits). without (bit_xor c.args.self.value b.value) c.args.self.mask)
    (sym e) ∙ without_same c.args.self.value c.args.self.mask)

pub returns-else-other-self-eq0-clause-inclusion : goal.returns-else-other-self-eq0-clause-inclusion
returns-else-other-self-eq0-clause-inclusion c =
    let ka = is_apart c.args.self (omega arith) (omega arith) in
    let kb = is_apart c.args.other (omega arith) (omega arith) in (
      λ same. absurd (search (arith, same)),
      λ within. absurd (c.if-other-self-eq0.false (included_mask ka kb within)),
    )

pub returns-else-other-self-eq0-clause-equal : goal.returns-else-other-self-eq0-clause-equal
returns-else-other-self-eq0-clause-equal c = λ e.
    eq-eqb _ 0 (ap (λ (b : Bits). without b.mask c.args.self.mask) (sym e)
    ∙ without_self c.args.self.mask (omega arith))
