use Rattle.known_bits.proofs.Common.{arith, ◌≡◌, ℕ, ap, sym, Arsh, alu, alu_below, IsMember}
use Rattle.known_bits.proofs.Members.{is_apart}
use Rattle.known_bits.proofs.Constants.{only_member}
use Rattle.known_bits.proofs.Copies.{shift_copies, copied_known, copied_contains, copied_fits, copied_sharp, occurs_same}
use Rattle.known_bits.proofs.bits.Bits.shift_signed_at.Goals as goal

pub returns-then-other-ne0-clause-contains : goal.returns-then-other-ne0-clause-contains
returns-then-other-ne0-clause-contains c =
    λ x y hx hy. (c.any.ensures _).1 (alu_below Arsh c.args.width x y)

pub invariant_of-result : goal.invariant_of-result
invariant_of-result c =
    let k = is_apart c.args.self (omega arith) (omega arith) in
    record {
      apart = rw (c.compute.ensures, c.compute-2.ensures)
          ((copied_known (shift_copies c.args.width c.args.other.value) k).apart);
      fits = omega arith;
    }

pub returns-clause-contains : goal.returns-clause-contains
returns-clause-contains c = λ x y hx hy.
    let k = is_apart c.args.self (omega arith) (omega arith) in
    rw (only_member c.if-other-ne0.false hy, c.compute.ensures, c.compute-2.ensures)
    (copied_contains (shift_copies c.args.width c.args.other.value) k x hx)

pub returns-clause-sharp : goal.returns-clause-sharp
returns-clause-sharp c = λ one i h.
    let k = is_apart c.args.self (omega arith) (omega arith) in
    let other = is_apart c.args.other (omega arith) (omega arith) in
    let o = copied_sharp (shift_copies c.args.width c.args.other.value) k other i
    (rw c.compute-2.ensures at h) in
    let same = λ (x y : ℕ) (hy : IsMember c.args.other.value c.args.other.mask y).
    (let e : alu Arsh c.args.width x c.args.other.value ≡ alu Arsh c.args.width x y =
    ap (alu Arsh c.args.width x) (sym (only_member one hy)) in e) in
    (occurs_same same o.0, occurs_same same o.1)

pub returns-clause-fits : goal.returns-clause-fits
returns-clause-fits c = λ x h.
    let k = is_apart c.args.self (omega arith) (omega arith) in
    copied_fits (shift_copies c.args.width c.args.other.value) k
    (rw (c.compute.ensures, c.compute-2.ensures) at h)
