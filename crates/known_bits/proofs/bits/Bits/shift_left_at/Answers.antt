use Rattle.known_bits.proofs.Common.{arith, ◌≡◌, ◌*◌, ◌^◌, ap, sym, ◌∙◌, ℕ, ◌%◌, shift, result_of, low_wrapped, low_below, Lsh, width_bits, IsMember}
use Rattle.known_bits.proofs.Constants.{only_member}
use Rattle.known_bits.proofs.Members.{is_apart}
use Rattle.known_bits.proofs.Sharp.{low_set, occurs_low}
use Rattle.known_bits.proofs.Precise.{left_sharp}
use Rattle.known_bits.proofs.bits.Bits.shift_left_at.Goals as goal

pub returns-then-other-ne0-clause-contains : goal.returns-then-other-ne0-clause-contains
returns-then-other-ne0-clause-contains c =
    λ x y hx hy. (c.any.ensures _).1 (low_below c.args.width _)

pub returns-clause-contains : goal.returns-clause-contains
returns-clause-contains c = λ x y hx hy.
    let w = c.args.width in
    let k = c.distance.result in
    let e : shift w y ≡ k = ap (shift w) (only_member c.if-other-ne0.false hy)
    ∙ sym c.distance.ensures.is_shift in
    rw e (rw (low_wrapped w (x * 2 ^ k)) at
    (c.truncate.ensures.contains _ (c.shift_left.ensures.contains x hx)))

pub returns-then-other-ne0-clause-sharp : goal.returns-then-other-ne0-clause-sharp
returns-then-other-ne0-clause-sharp c = λ one. absurd (c.if-other-ne0.true one)

pub returns-clause-sharp : goal.returns-clause-sharp
returns-clause-sharp c = λ one i h.
    let ka = is_apart c.args.self (omega arith) (omega arith) in
    let kb = is_apart c.args.other (omega arith) (omega arith) in
    let w = c.args.width in
    let k = c.distance.result in
    let s = low_set c.shift_left.result.mask (width_bits w) i (rw c.truncate.ensures.mask at h) in
    let o = left_sharp ka kb k i (rw c.shift_left.ensures.mask at s.1) in
    let moved = λ (y : ℕ) (hy : IsMember c.args.other.value c.args.other.mask y).
    (let e : shift w y ≡ k = ap (shift w) (only_member c.if-other-ne0.false hy)
    ∙ sym c.distance.ensures.is_shift in e) in (
      occurs_low (λ x y. (x * 2 ^ k) % 2 ^ 64) (result_of Lsh w) (width_bits w) i 0 s.0
          (λ x y hx hy. rw (moved y hy) (low_wrapped w (x * 2 ^ k))) o.0,
      occurs_low (λ x y. (x * 2 ^ k) % 2 ^ 64) (result_of Lsh w) (width_bits w) i 1 s.0
          (λ x y hx hy. rw (moved y hy) (low_wrapped w (x * 2 ^ k))) o.1,
    )
