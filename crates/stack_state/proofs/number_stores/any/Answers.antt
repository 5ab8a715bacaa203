use Rattle.stack_state.proofs.number_stores.any.Goals as goal

pub returns : goal.returns
returns c = λ x h. (c.any.ensures x).1 h
