use Rattle.transfer.proofs.arithmetic.number_and.Goals as goal

pub returns-in-Number : goal.returns-in-Number
returns-in-Number c = rw c.in-Number.is c.computed.ensures
