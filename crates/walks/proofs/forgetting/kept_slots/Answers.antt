use Rattle.walks.proofs.forgetting.kept_slots.Goals as goal

pub returns-then-not-is_join : goal.returns-then-not-is_join
returns-then-not-is_join c = λ j below none. absurd (none ((c.all.ensures j).1 below))

pub returns : goal.returns
returns c = λ j below none. (
  c.is_join.ensures.join.0 c.if-not-is_join.false,
  λ live. none ((c.live_slots.ensures j).1 live),
)
