use Rattle.isa_model.specs.declared.sizes.Width.TheVariants.{Low32}
use Rattle.reg_state.proofs.RelationsLaws.{goes}
use Rattle.reg_state.proofs.comparisons.related_low.Goals as goal

pub returns-in_err-left-clause-common : goal.returns-in_err-left-clause-common
returns-in_err-left-clause-common g c = λ x y hx hy e.
    absurd (c.in_err-left.ensures.common x y hx hy
    (goes c.args.comparison Low32 c.args.taken x y e))

pub returns-then-not-reads_whole-clause-common : goal.returns-then-not-reads_whole-clause-common
returns-then-not-reads_whole-clause-common g c = λ x y hx hy e.
    c.in_ok-left.ensures.common x y hx hy (goes c.args.comparison Low32 c.args.taken x y e)

pub returns-in_err-whole_left-clause-common : goal.returns-in_err-whole_left-clause-common
returns-in_err-whole_left-clause-common g c = λ x y hx hy e.
    absurd (c.in_err-whole_left.ensures.common x y hx hy
    (c.reads_whole.ensures.sound c.if-not-reads_whole.false x y hx hy c.args.taken e))

pub returns-in_err-first-clause-common : goal.returns-in_err-first-clause-common
returns-in_err-first-clause-common g c = λ x y hx hy e.
    let half = c.in_ok-left.ensures.common x y hx hy
    (goes c.args.comparison Low32 c.args.taken x y e) in
    let whole = c.in_ok-whole_left.ensures.common x y hx hy
    (c.reads_whole.ensures.sound c.if-not-reads_whole.false x y hx hy c.args.taken e) in
    absurd (c.in_err-first.ensures.common x half.0 whole.0)

pub returns-in_err-second-clause-common : goal.returns-in_err-second-clause-common
returns-in_err-second-clause-common g c = λ x y hx hy e.
    let half = c.in_ok-left.ensures.common x y hx hy
    (goes c.args.comparison Low32 c.args.taken x y e) in
    let whole = c.in_ok-whole_left.ensures.common x y hx hy
    (c.reads_whole.ensures.sound c.if-not-reads_whole.false x y hx hy c.args.taken e) in
    absurd (c.in_err-second.ensures.common y half.1 whole.1)

pub returns-clause-common : goal.returns-clause-common
returns-clause-common g c = λ x y hx hy e.
    let half = c.in_ok-left.ensures.common x y hx hy
    (goes c.args.comparison Low32 c.args.taken x y e) in
    let whole = c.in_ok-whole_left.ensures.common x y hx hy
    (c.reads_whole.ensures.sound c.if-not-reads_whole.false x y hx hy c.args.taken e) in
    (c.in_ok-first.ensures.common x half.0 whole.0, c.in_ok-second.ensures.common y half.1 whole.1)

pub returns-clause-left : goal.returns-clause-left
returns-clause-left g c = λ x h. c.in_ok-left.ensures.left x (c.in_ok-first.ensures.left x h)

pub returns-clause-right : goal.returns-clause-right
returns-clause-right g c = λ y h. c.in_ok-left.ensures.right y (c.in_ok-second.ensures.left y h)

pub returns-clause-whole : goal.returns-clause-whole
returns-clause-whole g c = λ both.
    let shown = c.in_ok-whole_left.ensures.whole in
    record {
      left_limits = λ x h. shown.left_limits x (c.in_ok-first.ensures.right x h);
      right_limits = λ y h. shown.right_limits y (c.in_ok-second.ensures.right y h);
      left_bits = λ x h. shown.left_bits x (c.in_ok-first.ensures.right x h);
      right_bits = λ y h. shown.right_bits y (c.in_ok-second.ensures.right y h);
    }

pub returns-then-not-reads_whole-clause-low : goal.returns-then-not-reads_whole-clause-low
returns-then-not-reads_whole-clause-low g c = record {
  left_limits = c.in_ok-left.ensures.left_limits;
  right_limits = c.in_ok-left.ensures.right_limits;
}

pub returns-clause-low : goal.returns-clause-low
returns-clause-low g c = record {
  left_limits = λ x h. c.in_ok-left.ensures.left_limits x (c.in_ok-first.ensures.left x h);
  right_limits = λ y h. c.in_ok-left.ensures.right_limits y (c.in_ok-second.ensures.left y h);
}
