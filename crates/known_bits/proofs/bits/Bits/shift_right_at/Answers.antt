use Rattle.known_bits.proofs.Common.{◌/◌, ◌≡◌, ◌^◌, ap, sym, ◌∙◌, arith, ℕ, ◌%◌, div-le_self, shift, result_of, Rsh, width_bits, IsMember}
use Rattle.isa_model.specs.Code.NumberLaws.{low_same}
use Rattle.known_bits.proofs.Constants.{only_member}
use Rattle.known_bits.proofs.Members.{is_apart}
use Rattle.known_bits.proofs.Sharp.{low_set, occurs_low}
use Rattle.known_bits.proofs.Precise.{right_sharp}
use Rattle.known_bits.proofs.bits.Bits.shift_right_at.Goals as goal

pub returns-then-other-ne0-clause-contains : goal.returns-then-other-ne0-clause-contains
returns-then-other-ne0-clause-contains c = λ x y x_in hx hy.
    let l = div-le_self x (2 ^ shift c.args.width y) in
    (c.any.ensures _).1 (omega arith)

pub returns-clause-contains : goal.returns-clause-contains
returns-clause-contains c = λ x y x_in hx hy.
    let w = c.args.width in
    let k = c.distance.result in
    let e : shift w y ≡ k = ap (shift w) (only_member c.if-other-ne0.false hy)
    ∙ sym c.distance.ensures.is_shift in
    let l = div-le_self x (2 ^ k) in
    rw e (rw (low_same w (x / 2 ^ k) (omega arith)) at
    (c.truncate.ensures.contains _ (c.shift_right.ensures.contains x hx)))

pub returns-then-other-ne0-clause-sharp : goal.returns-then-other-ne0-clause-sharp
returns-then-other-ne0-clause-sharp c = λ one small. absurd (c.if-other-ne0.true one)

pub returns-clause-sharp : goal.returns-clause-sharp
returns-clause-sharp c = λ one small i h.
    let ka = is_apart c.args.self (omega arith) (omega arith) in
    let kb = is_apart c.args.other (omega arith) (omega arith) in
    let w = c.args.width in
    let k = c.distance.result in
    let s = low_set c.shift_right.result.mask (width_bits w) i (rw c.truncate.ensures.mask at h) in
    let o = right_sharp ka kb k i (rw c.shift_right.ensures.mask at s.1) in
    let moved = λ (y : ℕ) (hy : IsMember c.args.other.value c.args.other.mask y).
    (let e : shift w y ≡ k = ap (shift w) (only_member c.if-other-ne0.false hy)
    ∙ sym c.distance.ensures.is_shift in e) in
    let kept = λ (x : ℕ) (hx : IsMember c.args.self.value c.args.self.mask x).
    (let e : x / 2 ^ k % 2 ^ width_bits w ≡ x / 2 ^ k =
    low_same w (x / 2 ^ k)
    (let l = div-le_self x (2 ^ k) in let b = small x hx in omega arith) in e) in (
      occurs_low (λ x y. x / 2 ^ k) (result_of Rsh w) (width_bits w) i 0 s.0
          (λ x y hx hy. rw (moved y hy) (kept x hx)) o.0,
      occurs_low (λ x y. x / 2 ^ k) (result_of Rsh w) (width_bits w) i 1 s.0
          (λ x y hx hy. rw (moved y hy) (kept x hx)) o.1,
    )
