use Rattle.known_bits.proofs.Common.{arith, ◌≡◌, ◌^◌, sym, ◌∙◌, inl, inr, bit_at, shr_and_one, bit_at-lt, cases_lt}
use Rattle.known_bits.proofs.Members.{is_apart, bits_between}
use Rattle.known_bits.proofs.Product.{term_one, term_zero}
use Rattle.known_bits.proofs.bits.Bits.term.Goals as goal

pub returns-then-self-i-eq1 : goal.returns-then-self-i-eq1
returns-then-self-i-eq1 c = λ x y hx hy.
    let ka = is_apart c.args.self (omega arith) (omega arith) in
    let b = bits_between ka hx c.args.i c.requires in
    let v : bit_at c.args.self.value c.args.i ≡ 1 = sym (shr_and_one c.args.self.value c.args.i)
    ∙ c.if-self-i-eq1.true in
    let l = bit_at-lt x c.args.i in
    rw (term_one (bit_at x c.args.i) y (2 ^ c.args.i) (omega arith))
    (c.shift_left-moved.ensures.contains y hy)

pub returns-then-self-i-eq1-2 : goal.returns-then-self-i-eq1-2
returns-then-self-i-eq1-2 c = λ x y hx hy.
    let l = bit_at-lt x c.args.i in
    elim (cases_lt 0 (bit_at x c.args.i)) [
      | inl one ↦
          rw (term_one (bit_at x c.args.i) y (2 ^ c.args.i) (omega arith))
          (c.or_zero.ensures.contains _ (c.shift_left-moved.ensures.contains y hy))
      | inr none ↦
          rw (term_zero (bit_at x c.args.i) y (2 ^ c.args.i) (omega arith)) c.or_zero.ensures.zero
    ]

pub returns-else-self-i-eq1-2 : goal.returns-else-self-i-eq1-2
returns-else-self-i-eq1-2 c = λ x y hx hy.
    let ka = is_apart c.args.self (omega arith) (omega arith) in
    let b = bits_between ka hx c.args.i c.requires in
    let v = shr_and_one c.args.self.value c.args.i in
    let m = shr_and_one c.args.self.mask c.args.i in
    let lv = bit_at-lt c.args.self.value c.args.i in
    let lm = bit_at-lt c.args.self.mask c.args.i in
    let v0 = c.if-self-i-eq1.false in
    let m0 = c.if-self-i-eq1-2.false in
    rw (term_zero (bit_at x c.args.i) y (2 ^ c.args.i) (omega arith)) c.constant.ensures.contains
