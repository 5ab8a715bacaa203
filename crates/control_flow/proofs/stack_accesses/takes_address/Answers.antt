use Rattle.control_flow.proofs.Common.{IsTrue, R10, HasRegister}
use Rattle.control_flow.proofs.StackUses.{others_take_address}
use Rattle.control_flow.proofs.stack_accesses.takes_address.Goals as goal

pub returns-in_default : goal.returns-in_default
returns-in_default c =
    others_take_address c.args.insn.now c.in_default.not-Load c.in_default.not-LoadSx
    c.in_default.not-StoreConstant c.in_default.not-Store
    (IsTrue c.has.result) (HasRegister c.args.read R10) c.has.ensures c.requires
