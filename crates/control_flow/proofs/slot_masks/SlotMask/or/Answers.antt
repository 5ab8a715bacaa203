use Rattle.std.proofs.lemmas.Nat.{le_or_l}
use Rattle.control_flow.proofs.MaskLemmas.{or_has}
use Rattle.control_flow.proofs.slot_masks.SlotMask.or.Goals as goal

pub returns-clause-all : goal.returns-clause-all
returns-clause-all c = λ j. or_has c.args.self.bits c.args.other.bits j

pub returns-clause-grown : goal.returns-clause-grown
returns-clause-grown c = le_or_l c.args.self.bits c.args.other.bits
