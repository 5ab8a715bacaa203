use Rattle.state_index.proofs.parts.take_parts.Goals as goal

pub take_parts_in-requires : goal.take_parts_in-requires
take_parts_in-requires c = λ j below none. absurd (none ((c.all.ensures j).1 below))
