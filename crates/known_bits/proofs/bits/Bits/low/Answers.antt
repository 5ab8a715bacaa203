use Rattle.known_bits.proofs.Common.{arith, ◌≡◌, ◌-◌, ◌^◌, and_mask, and_le_l}
use Rattle.known_bits.proofs.Members.{is_apart}
use Rattle.known_bits.proofs.Parts.{low_apart, low_contains}
use Rattle.known_bits.proofs.Order.{low_fits}
use Rattle.known_bits.proofs.bits.Bits.low.Goals as goal

pub invariant_of-result : goal.invariant_of-result
invariant_of-result c =
    let ka = is_apart c.args.self (omega arith) (omega arith) in
    let k = c.args.count in
    let e : c.ones-ones.result ≡ 2 ^ k - 1 = omega arith in
    record {
      apart = rw (e, and_mask c.args.self.value k, and_mask c.args.self.mask k)
          (low_apart ka k).apart;
      fits = let le = and_le_l c.args.self.mask c.ones-ones.result in
          omega arith;
    }

pub returns-clause-contains : goal.returns-clause-contains
returns-clause-contains c =
    let ka = is_apart c.args.self (omega arith) (omega arith) in
    let k = c.args.count in
    let e : c.ones-ones.result ≡ 2 ^ k - 1 = omega arith in
    λ x hx. rw (e, and_mask c.args.self.value k, and_mask c.args.self.mask k)
    (low_contains ka k x hx)

pub returns-clause-value : goal.returns-clause-value
returns-clause-value c =
    let k = c.args.count in
    let e : c.ones-ones.result ≡ 2 ^ k - 1 = omega arith in
    rw e (and_mask c.args.self.value k)

pub returns-clause-mask : goal.returns-clause-mask
returns-clause-mask c =
    let k = c.args.count in
    let e : c.ones-ones.result ≡ 2 ^ k - 1 = omega arith in
    rw e (and_mask c.args.self.mask k)

pub returns-clause-fits : goal.returns-clause-fits
returns-clause-fits c =
    let ka = is_apart c.args.self (omega arith) (omega arith) in
    let k = c.args.count in
    let e : c.ones-ones.result ≡ 2 ^ k - 1 = omega arith in
    λ x hx. low_fits ka k (rw (e, and_mask c.args.self.value k, and_mask c.args.self.mask k) at hx)
