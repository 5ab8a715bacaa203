use Rattle.assembler.proofs.hints.hint.Goals as goal

pub returns-in-UnknownByte : goal.returns-in-UnknownByte
returns-in-UnknownByte c = rw c.in-UnknownByte.is c.hint_in.ensures

pub returns-in-OutOfRange : goal.returns-in-OutOfRange
returns-in-OutOfRange c = rw c.in-OutOfRange.is c.hint_in-in-OutOfRange.ensures
