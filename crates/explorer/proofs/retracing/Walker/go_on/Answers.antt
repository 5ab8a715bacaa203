use Rattle.explorer.proofs.Common.{rules, refl, inl, inr, beside}
use Rattle.transfer.specs.declared.Ways.TheVariants as ways
use Rattle.explorer.proofs.Walking.{steps_again}
use Rattle.explorer.proofs.retracing.Walker.go_on.Goals as goal

pub returns-in-One : goal.returns-in-One
returns-in-One c = λ done.
    let a = c.step_beside.new.state in
    let b = beside c.in-Ok.shares a c.step_beside.new.other in
    steps_again c.args.image.now c.args.flow.now c.args.self.now.state a b a
    c.forget_again.new.state c.in-Ok.ways
    ways.One (search rules) c.in-Ok.ensures.steps c.in-One.is refl c.requires
    (c.forget_again.ensures done)

pub returns-then-not-course : goal.returns-then-not-course
returns-then-not-course c = λ done.
    let a = c.step_beside.new.state in
    let b = beside c.in-Ok.shares a c.step_beside.new.other in
    steps_again c.args.image.now c.args.flow.now c.args.self.now.state a b a
    c.forget_again-then-not-course.new.state c.in-Ok.ways ways.Two (search rules)
    c.in-Ok.ensures.steps c.in-Two.is (inl refl) c.requires
    (c.forget_again-then-not-course.ensures done)

pub returns-else-not-course : goal.returns-else-not-course
returns-else-not-course c = λ done.
    let a = c.step_beside.new.state in
    let b = beside c.in-Ok.shares a c.step_beside.new.other in
    steps_again c.args.image.now c.args.flow.now c.args.self.now.state a b
    c.go_aside.new.state c.forget_again-in-Two.new.state c.in-Ok.ways
    ways.Two (search rules) c.in-Ok.ensures.steps c.in-Two.is (inr c.go_aside.ensures)
    c.requires (c.forget_again-in-Two.ensures done)
