use Rattle.known_bits.proofs.Common.{◌+◌, ◌^◌, arith, w64, of_z-to_z}
use Rattle.known_bits.proofs.Members.{is_apart}
use Rattle.known_bits.proofs.Sharp.{least_member}
use Rattle.known_bits.proofs.Signs.{sign_unknown, other_sign, signed_least_unknown, signed_least_known}
use Rattle.known_bits.proofs.bits.Bits.signed_least.Goals as goal

pub returns-then-self-ge-SIGN-clause-member : goal.returns-then-self-ge-SIGN-clause-member
returns-then-self-ge-SIGN-clause-member c =
    let k = is_apart c.args.self (omega arith) (omega arith) in
    let v_in = sign_unknown k c.if-self-ge-SIGN.true in
    let same = of_z-to_z w64 (c.args.self.value + 2 ^ 63) (omega arith) in
    simp (c.cast_signed.ensures, c.least.ensures.value, same)
    (other_sign (c.args.self.value + 2 ^ 63) k c.if-self-ge-SIGN.true (least_member k) (omega arith)
    (omega arith))

pub returns-then-self-ge-SIGN-clause-limit : goal.returns-then-self-ge-SIGN-clause-limit
returns-then-self-ge-SIGN-clause-limit c = λ x hx.
    let k = is_apart c.args.self (omega arith) (omega arith) in
    let v_in = sign_unknown k c.if-self-ge-SIGN.true in
    let same = of_z-to_z w64 (c.args.self.value + 2 ^ 63) (omega arith) in
    simp (c.cast_signed.ensures, c.least.ensures.value, same)
    (signed_least_unknown k c.if-self-ge-SIGN.true hx)

pub returns-else-self-ge-SIGN-clause-member : goal.returns-else-self-ge-SIGN-clause-member
returns-else-self-ge-SIGN-clause-member c =
    let k = is_apart c.args.self (omega arith) (omega arith) in
    let same = of_z-to_z w64 c.args.self.value (omega arith) in
    simp (c.cast_signed-else-self-ge-SIGN.ensures, c.least-else-self-ge-SIGN.ensures.value, same)
    (least_member k)

pub returns-else-self-ge-SIGN-clause-limit : goal.returns-else-self-ge-SIGN-clause-limit
returns-else-self-ge-SIGN-clause-limit c = λ x hx.
    let k = is_apart c.args.self (omega arith) (omega arith) in
    let same = of_z-to_z w64 c.args.self.value (omega arith) in
    simp (c.cast_signed-else-self-ge-SIGN.ensures, c.least-else-self-ge-SIGN.ensures.value, same)
    (signed_least_known k c.if-self-ge-SIGN.false hx)
