use Rattle.known_bits.proofs.Common.{◌-◌, ◌^◌, arith, w64, bit_or, of_z-to_z, le_or_r, or_lt}
use Rattle.known_bits.proofs.Members.{is_apart}
use Rattle.known_bits.proofs.Sharp.{most_member}
use Rattle.known_bits.proofs.Signs.{other_sign, signed_greatest_unknown, signed_greatest_known}
use Rattle.known_bits.proofs.bits.Bits.signed_greatest.Goals as goal

pub overflow_sub-greatest : goal.overflow_sub-greatest
overflow_sub-greatest c =
    let l = le_or_r c.args.self.value c.args.self.mask in
    let e = c.greatest.ensures.value in
    let t = c.if-self-ge-SIGN.true in
    omega arith

pub returns-then-self-ge-SIGN-clause-member : goal.returns-then-self-ge-SIGN-clause-member
returns-then-self-ge-SIGN-clause-member c =
    let k = is_apart c.args.self (omega arith) (omega arith) in
    let top = bit_or c.args.self.value c.args.self.mask in
    let l = le_or_r c.args.self.value c.args.self.mask in
    let o = or_lt 64 c.args.self.value c.args.self.mask k.value_in k.mask_in in
    let same = of_z-to_z w64 (top - 2 ^ 63) (omega arith) in
    simp (c.cast_signed.ensures, c.greatest.ensures.value, same)
    (other_sign (top - 2 ^ 63) k c.if-self-ge-SIGN.true (most_member k) (omega arith) (omega arith))

pub returns-then-self-ge-SIGN-clause-limit : goal.returns-then-self-ge-SIGN-clause-limit
returns-then-self-ge-SIGN-clause-limit c = λ x hx.
    let k = is_apart c.args.self (omega arith) (omega arith) in
    let top = bit_or c.args.self.value c.args.self.mask in
    let o = or_lt 64 c.args.self.value c.args.self.mask k.value_in k.mask_in in
    let same = of_z-to_z w64 (top - 2 ^ 63) (omega arith) in
    simp (c.cast_signed.ensures, c.greatest.ensures.value, same)
    (signed_greatest_unknown k c.if-self-ge-SIGN.true hx)

pub returns-else-self-ge-SIGN-clause-member : goal.returns-else-self-ge-SIGN-clause-member
returns-else-self-ge-SIGN-clause-member c =
    let k = is_apart c.args.self (omega arith) (omega arith) in
    let same = of_z-to_z w64 (bit_or c.args.self.value c.args.self.mask)
    (or_lt 64 c.args.self.value c.args.self.mask k.value_in k.mask_in) in
    simp (c.cast_signed-else-self-ge-SIGN.ensures, c.greatest-else-self-ge-SIGN.ensures.value, same)
    (most_member k)

pub returns-else-self-ge-SIGN-clause-limit : goal.returns-else-self-ge-SIGN-clause-limit
returns-else-self-ge-SIGN-clause-limit c = λ x hx.
    let k = is_apart c.args.self (omega arith) (omega arith) in
    let same = of_z-to_z w64 (bit_or c.args.self.value c.args.self.mask)
    (or_lt 64 c.args.self.value c.args.self.mask k.value_in k.mask_in) in
    simp (c.cast_signed-else-self-ge-SIGN.ensures, c.greatest-else-self-ge-SIGN.ensures.value, same)
    (signed_greatest_known k c.if-self-ge-SIGN.false hx)
