use Rattle.control_flow.proofs.Common.{rules, IsTrue, HasSlot}
use Rattle.control_flow.proofs.StackPlaces.{within_below, based_slots}
use Rattle.control_flow.proofs.number_passes.slots_at.Goals as goal

pub of-requires : goal.of-requires
of-requires c = λ j e. within_below c.args.place j ((c.slot_of.ensures j).0 e)

pub returns-then-eq : goal.returns-then-eq
returns-then-eq c =
    based_slots (IsTrue c.args.taken) c.args.place c.slot_of.result (HasSlot c.of.result)
    (search rules) c.of.ensures c.slot_of.ensures
