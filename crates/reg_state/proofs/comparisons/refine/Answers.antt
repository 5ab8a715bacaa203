use Rattle.std.proofs.Common.{ℕ, subst}
use Rattle.reg_state.specs.Shown.{HasSeveral}
use Rattle.reg_state.proofs.comparisons.refine.Goals as goal

-- a set that had several members is the one that the comparison left
left_new : (g : _) (c : goal.After-kept-2 g) → HasSeveral (g.D.Domain.has) c.args.a → (x : ℕ)
    → g.D.Domain.has c.kept.result x → g.D.Domain.has c.in_ok-left.left x
left_new g c some x = subst (λ d. g.D.Domain.has d x)
    (c.kept.ensures.changed some.0 some.1 some.2 some.3 some.4)

right_new : (g : _) (c : goal.After-kept-2 g) → HasSeveral (g.D.Domain.has) c.args.b → (y : ℕ)
    → g.D.Domain.has c.kept-2.result y → g.D.Domain.has c.in_ok-left.right y
right_new g c some y = subst (λ d. g.D.Domain.has d y)
    (c.kept-2.ensures.changed some.0 some.1 some.2 some.3 some.4)

pub returns-in_err-left-clause-some : goal.returns-in_err-left-clause-some
returns-in_err-left-clause-some g c = λ x y hx hy e.
    absurd (c.in_err-left.ensures.common x y hx hy e)

pub returns-clause-shows : goal.returns-clause-shows
returns-clause-shows g c =
    let shown = c.in_ok-left.ensures in
    record {
      common = λ x y hx hy e.
          let both = shown.common x y hx hy e in
          (c.kept.ensures.contains x hx both.0, c.kept-2.ensures.contains y hy both.1);
      left_fewer = c.kept.ensures.narrower shown.left;
      right_fewer = c.kept-2.ensures.narrower shown.right;
      left_constant = c.kept.ensures.constant;
      right_constant = c.kept-2.ensures.constant;
      left_limits = λ whole some x h. (shown.whole whole).left_limits x (left_new g c some x h);
      right_limits = λ whole some y h. (shown.whole whole).right_limits y (right_new g c some y h);
      left_bits = λ whole some x h. (shown.whole whole).left_bits x (left_new g c some x h);
      right_bits = λ whole some y h. (shown.whole whole).right_bits y (right_new g c some y h);
      left_low_limits = λ low some x h. (shown.low low).left_limits x (left_new g c some x h);
      right_low_limits = λ low some y h. (shown.low low).right_limits y (right_new g c some y h);
    }
