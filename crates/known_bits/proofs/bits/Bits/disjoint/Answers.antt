use Rattle.known_bits.proofs.Common.{arith, ◌∙◌, and_comm}
use Rattle.known_bits.proofs.Members.{is_apart}
use Rattle.known_bits.proofs.Overlaps.{and_value_zero}
use Rattle.known_bits.proofs.Sharp.{least_member}
use Rattle.known_bits.proofs.bits.Bits.disjoint.Goals as goal

pub returns-in_err-left-clause-common : goal.returns-in_err-left-clause-common
returns-in_err-left-clause-common c = λ x y hx hy none.
    let kb = is_apart c.args.other (omega arith) (omega arith) in
    absurd (c.in_err-left.ensures.common x hx
    (c.outside.ensures.contains x hx.below (and_value_zero x kb hy none)))

pub returns-in_err-right-clause-common : goal.returns-in_err-right-clause-common
returns-in_err-right-clause-common c = λ x y hx hy none.
    let ka = is_apart c.args.self (omega arith) (omega arith) in
    absurd (c.in_err-right.ensures.common y hy
    (c.outside-2.ensures.contains y hy.below (and_value_zero y ka hx (and_comm y x ∙ none))))

pub returns-clause-common : goal.returns-clause-common
returns-clause-common c = λ x y hx hy none.
    let ka = is_apart c.args.self (omega arith) (omega arith) in
    let kb = is_apart c.args.other (omega arith) (omega arith) in (
      c.in_ok-left.ensures.common x hx
          (c.outside.ensures.contains x hx.below (and_value_zero x kb hy none)),
      c.in_ok-right.ensures.common y hy
          (c.outside-2.ensures.contains y hy.below (and_value_zero y ka hx (and_comm y x ∙ none))),
    )

pub returns-clause-found : goal.returns-clause-found
returns-clause-found c =
    let kb = is_apart c.args.other (omega arith) (omega arith) in
    let left = c.in_ok-left.left in
    let kl = is_apart left (omega arith) (omega arith) in
    record {
      x = left.value;
      y = c.args.other.value;
      first = c.in_ok-left.ensures.left _ (least_member kl);
      second = least_member kb;
      is = c.outside.ensures.only _ (c.in_ok-left.ensures.right _ (least_member kl));
    }

pub returns-clause-left_only : goal.returns-clause-left_only
returns-clause-left_only c = λ x h. c.outside.ensures.only x (c.in_ok-left.ensures.right x h)

pub returns-clause-right_only : goal.returns-clause-right_only
returns-clause-right_only c = λ y h. c.outside-2.ensures.only y (c.in_ok-right.ensures.right y h)
