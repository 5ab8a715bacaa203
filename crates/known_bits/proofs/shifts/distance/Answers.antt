use Rattle.std.proofs.Common.{rules}
use Rattle.known_bits.proofs.shifts.distance.Goals as goal

pub returns-clause-is_shift : goal.returns-clause-is_shift
returns-clause-is_shift c = search rules

pub returns-clause-below : goal.returns-clause-below
returns-clause-below c = search rules
