use Rattle.ranges.proofs.Common.{Low32, Add, Sub, SignedDiv, SignedMod, Arsh, alu, low_same}
use Rattle.ranges.proofs.KeepsWeaker.{kept_limits, kept_signed_limits}
use Rattle.ranges.proofs.low.Low.alu.Goals as goal

pub returns-in-Mov-clause-contains : goal.returns-in-Mov-clause-contains
unfolding alu
returns-in-Mov-clause-contains c = λ e f he hf. rw (c.in-Mov.is, low_same Low32 f hf.below) hf

pub returns-in-Add-clause-limits : goal.returns-in-Add-clause-limits
returns-in-Add-clause-limits c = λ e f he hf.
    kept_limits c.args.op c.args.a c.args.b c.unsigned_alu.result c.with.result
    c.with.ensures.enclosed (c.unsigned_alu.ensures.limits e f he hf)

pub returns-in-Add-clause-signed : goal.returns-in-Add-clause-signed
returns-in-Add-clause-signed c = λ e f he hf.
    let has = rw c.in-Add.is at (c.unsigned_alu.ensures.contains e f he hf) in
    let other = c.with.ensures.other _ has (c.signed_sum.ensures.contains e f he hf) in
    rw c.in-Add.is (kept_signed_limits Add c.args.a c.args.b c.signed_sum.result c.with.result
    other (c.signed_sum.ensures.signed e f he hf))

pub returns-in-Sub-clause-limits : goal.returns-in-Sub-clause-limits
returns-in-Sub-clause-limits c = λ e f he hf.
    kept_limits c.args.op c.args.a c.args.b c.unsigned_alu-in-Sub.result c.with-in-Sub.result
    c.with-in-Sub.ensures.enclosed (c.unsigned_alu-in-Sub.ensures.limits e f he hf)

pub returns-in-Sub-clause-signed : goal.returns-in-Sub-clause-signed
returns-in-Sub-clause-signed c = λ e f he hf.
    let has = rw c.in-Sub.is at (c.unsigned_alu-in-Sub.ensures.contains e f he hf) in
    let other = c.with-in-Sub.ensures.other _ has
    (c.signed_difference.ensures.contains e f he hf) in
    rw c.in-Sub.is
    (kept_signed_limits Sub c.args.a c.args.b c.signed_difference.result c.with-in-Sub.result
    other (c.signed_difference.ensures.signed e f he hf))

pub returns-in-Arsh-clause-limits : goal.returns-in-Arsh-clause-limits
returns-in-Arsh-clause-limits c = λ e f he hf.
    kept_limits c.args.op c.args.a c.args.b c.unsigned_alu-in-Arsh.result c.with-in-Arsh.result
    c.with-in-Arsh.ensures.enclosed (c.unsigned_alu-in-Arsh.ensures.limits e f he hf)

pub returns-in-Arsh-clause-signed : goal.returns-in-Arsh-clause-signed
returns-in-Arsh-clause-signed c = λ e f he hf.
    let has = rw c.in-Arsh.is at (c.unsigned_alu-in-Arsh.ensures.contains e f he hf) in
    let other = c.with-in-Arsh.ensures.other _ has (c.shift_signed.ensures.contains e f he hf) in
    rw c.in-Arsh.is
    (kept_signed_limits Arsh c.args.a c.args.b c.shift_signed.result c.with-in-Arsh.result
    other (c.shift_signed.ensures.signed e f he hf))

pub returns-in-SignedDiv-clause-limits : goal.returns-in-SignedDiv-clause-limits
returns-in-SignedDiv-clause-limits c = λ e f he hf.
    kept_limits c.args.op c.args.a c.args.b c.unsigned_alu-in-SignedDiv.result
    c.with-in-SignedDiv.result
    c.with-in-SignedDiv.ensures.enclosed (c.unsigned_alu-in-SignedDiv.ensures.limits e f he hf)

pub returns-in-SignedDiv-clause-signed : goal.returns-in-SignedDiv-clause-signed
returns-in-SignedDiv-clause-signed c = λ e f he hf.
    let has = rw c.in-SignedDiv.is at (c.unsigned_alu-in-SignedDiv.ensures.contains e f he hf) in
    let other = c.with-in-SignedDiv.ensures.other _ has
    (c.signed_quotient.ensures.contains e f he hf) in
    rw c.in-SignedDiv.is
    (kept_signed_limits SignedDiv c.args.a c.args.b c.signed_quotient.result
    c.with-in-SignedDiv.result
    other (c.signed_quotient.ensures.signed e f he hf))

pub returns-in-SignedMod-clause-limits : goal.returns-in-SignedMod-clause-limits
returns-in-SignedMod-clause-limits c = λ e f he hf.
    kept_limits c.args.op c.args.a c.args.b c.unsigned_alu-in-SignedMod.result
    c.with-in-SignedMod.result
    c.with-in-SignedMod.ensures.enclosed (c.unsigned_alu-in-SignedMod.ensures.limits e f he hf)

pub returns-in-SignedMod-clause-signed : goal.returns-in-SignedMod-clause-signed
returns-in-SignedMod-clause-signed c = λ e f he hf.
    let has = rw c.in-SignedMod.is at (c.unsigned_alu-in-SignedMod.ensures.contains e f he hf) in
    let other = c.with-in-SignedMod.ensures.other _ has
    (c.signed_remainder.ensures.contains e f he hf) in
    rw c.in-SignedMod.is
    (kept_signed_limits SignedMod c.args.a c.args.b c.signed_remainder.result
    c.with-in-SignedMod.result
    other (c.signed_remainder.ensures.signed e f he hf))
