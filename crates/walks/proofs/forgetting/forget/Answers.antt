use Rattle.std.proofs.lemmas.Bool.{iff_false}
use Rattle.walks.proofs.NumberLoops.{forgets_both, knows_tested, forgets_dead}
use Rattle.walks.proofs.forgetting.forget.Goals as goal
use Rattle.walks.proofs.forgetting.forget.Goals.{else-forgets_numbers-via-then-forgets_numbers+else-is_join, else-forgets_numbers-via-else-forgets_numbers}

pub returns-then-is_join-clause-forgets : goal.returns-then-is_join-clause-forgets
returns-then-is_join-clause-forgets c =
    let may = c.forgets_numbers.ensures.0 c.if-forgets_numbers.true in
    forgets_both c.args.flow.now c.args.state.now c.forget_dead.new.state
    c.forget_untested.new.registers c.forget_untested.new.stack.slots may
    (c.is_join.ensures.join.0 c.if-is_join.true) c.forget_dead.ensures.forgets
    (c.forget_untested.ensures.registers may) (c.forget_untested.ensures.slots may)

pub returns-then-is_join-clause-all : goal.returns-then-is_join-clause-all
returns-then-is_join-clause-all c =
    let may = c.forgets_numbers.ensures.0 c.if-forgets_numbers.true in
    knows_tested c.args.flow.now c.args.state.now c.forget_dead.new.state
    c.forget_untested.new.registers c.forget_untested.new.stack.slots c.forget_dead.ensures.forgets
    (c.forget_untested.ensures.registers may) (c.forget_untested.ensures.slots may)

pub returns-else-forgets_numbers-clause-forgets : goal.returns-else-forgets_numbers-clause-forgets
returns-else-forgets_numbers-clause-forgets c =
    forgets_dead c.args.flow.now c.args.state.now _ c.forget_dead.ensures.forgets

pub returns-else-forgets_numbers-clause-all : goal.returns-else-forgets_numbers-clause-all
returns-else-forgets_numbers-clause-all c = λ may join. elim c.else-forgets_numbers.branch [
  | else-forgets_numbers-via-then-forgets_numbers+else-is_join w ↦
      absurd (iff_false w.is_join.ensures.join w.if-is_join.false join)
  | else-forgets_numbers-via-else-forgets_numbers w ↦
      absurd (iff_false c.forgets_numbers.ensures w.if-forgets_numbers.false may)
]
