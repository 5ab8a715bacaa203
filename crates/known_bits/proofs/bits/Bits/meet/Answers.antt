use Rattle.std.proofs.Common.{arith}
use Rattle.known_bits.proofs.Members.{is_apart}
use Rattle.known_bits.proofs.Order.{common_no_clash, meet_apart, meet_contains, meet_left, meet_right}
use Rattle.known_bits.proofs.bits.Bits.meet.Goals as goal

pub returns-then-clash-ne0-clause-common : goal.returns-then-clash-ne0-clause-common
returns-then-clash-ne0-clause-common c = λ x hx hy.
    let ka = is_apart c.args.self (omega arith) (omega arith) in
    let kb = is_apart c.args.other (omega arith) (omega arith) in
    c.if-clash-ne0.true (common_no_clash ka kb x hx hy)

pub invariant_of-result : goal.invariant_of-result
invariant_of-result c =
    let ka = is_apart c.args.self (omega arith) (omega arith) in
    let kb = is_apart c.args.other (omega arith) (omega arith) in
    record { apart = (meet_apart ka kb).apart; fits = (meet_apart ka kb).mask_in }

pub returns-clause-common : goal.returns-clause-common
returns-clause-common c =
    let ka = is_apart c.args.self (omega arith) (omega arith) in
    let kb = is_apart c.args.other (omega arith) (omega arith) in
    meet_contains ka kb

pub returns-clause-left : goal.returns-clause-left
returns-clause-left c =
    let ka = is_apart c.args.self (omega arith) (omega arith) in
    let kb = is_apart c.args.other (omega arith) (omega arith) in
    λ x hx. meet_left ka kb (omega arith) x hx

pub returns-clause-right : goal.returns-clause-right
returns-clause-right c =
    let ka = is_apart c.args.self (omega arith) (omega arith) in
    let kb = is_apart c.args.other (omega arith) (omega arith) in
    λ x hx. meet_right ka kb (omega arith) x hx
