use Rattle.stack_state.proofs.number_stores.have_all.Goals as goal

pub returns : goal.returns
returns c = λ yes x h. c.covers.ensures.yes yes x ((c.all.ensures x).1 h)
