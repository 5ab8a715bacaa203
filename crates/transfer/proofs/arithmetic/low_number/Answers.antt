use Rattle.transfer.proofs.arithmetic.low_number.Goals as goal

pub returns-in-Number : goal.returns-in-Number
returns-in-Number c = rw c.in-Number.is c.computed.ensures
