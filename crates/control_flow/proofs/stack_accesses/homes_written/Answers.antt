use Rattle.control_flow.proofs.StackUses.{writes_below}
use Rattle.control_flow.proofs.stack_accesses.homes_written.Goals as goal

pub of-requires : goal.of-requires
of-requires c = λ j e. writes_below c.args.insn.now j ((c.slot_written.ensures j).0 e)
