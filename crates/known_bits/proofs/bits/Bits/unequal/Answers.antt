use Rattle.known_bits.proofs.Common.{◌≢◌, ◌+◌, inl, inr, arith, bit_or, or_disjoint, cases_lt, Bits, SomePair}
use Rattle.known_bits.proofs.Members.{is_apart, Apart}
use Rattle.known_bits.proofs.Sharp.{least_member, most_member}
use Rattle.known_bits.proofs.bits.Bits.unequal.Goals.{else-self-eq0-via-then-self-eq0+then-other-eq0+else-self-other, else-self-eq0-via-then-self-eq0+else-other-eq0, else-self-eq0-via-else-self-eq0}
use Rattle.known_bits.proofs.bits.Bits.unequal.Goals as goal

some_left : (a b : Bits) → Apart a.value a.mask → Apart b.value b.mask → a.mask ≢ 0
    → SomePair a b (λ x y. x ≢ y)
some_left a b ka kb some =
    let e = or_disjoint a.value a.mask ka.apart in
    elim (cases_lt b.value (a.value + a.mask)) [
      | inl lt ↦
          record {
            x = bit_or a.value a.mask;
            y = b.value;
            first = most_member ka;
            second = least_member kb;
            is = λ same. omega arith;
          }
      | inr ge ↦
          record {
            x = a.value;
            y = b.value;
            first = least_member ka;
            second = least_member kb;
            is = λ same. omega arith;
          }
    ]

some_right : (a b : Bits) → Apart a.value a.mask → Apart b.value b.mask → b.mask ≢ 0
    → SomePair a b (λ x y. x ≢ y)
some_right a b ka kb some =
    let e = or_disjoint b.value b.mask kb.apart in
    elim (cases_lt a.value (b.value + b.mask)) [
      | inl lt ↦
          record {
            x = a.value;
            y = bit_or b.value b.mask;
            first = least_member ka;
            second = most_member kb;
            is = λ same. omega arith;
          }
      | inr ge ↦
          record {
            x = a.value;
            y = b.value;
            first = least_member ka;
            second = least_member kb;
            is = λ same. omega arith;
          }
    ]

pub returns-else-self-eq0-clause-found : goal.returns-else-self-eq0-clause-found
returns-else-self-eq0-clause-found c =
    let ka = is_apart c.args.self (omega arith) (omega arith) in
    let kb = is_apart c.args.other (omega arith) (omega arith) in
    elim c.else-self-eq0.branch [
      | else-self-eq0-via-then-self-eq0+then-other-eq0+else-self-other w ↦
          record {
            x = c.args.self.value;
            y = c.args.other.value;
            first = least_member ka;
            second = least_member kb;
            is = w.if-self-other.false;
          }
      | else-self-eq0-via-then-self-eq0+else-other-eq0 w ↦
          some_right c.args.self c.args.other ka kb w.if-other-eq0.false
      | else-self-eq0-via-else-self-eq0 w ↦
          some_left c.args.self c.args.other ka kb w.if-self-eq0.false
    ]
