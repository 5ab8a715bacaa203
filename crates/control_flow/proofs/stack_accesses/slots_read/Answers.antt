use Rattle.control_flow.proofs.StackUses.{reads_below}
use Rattle.control_flow.proofs.stack_accesses.slots_read.Goals as goal

pub of-requires : goal.of-requires
of-requires c = λ j e. reads_below c.args.insn.now j ((c.slot_read.ensures j).0 e)
