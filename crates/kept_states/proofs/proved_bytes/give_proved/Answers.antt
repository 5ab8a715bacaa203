use Rattle.std.proofs.Common.{sym, arith}
use Rattle.kept_states.proofs.ProvedBytesLaws.{with_nothing}
use Rattle.kept_states.proofs.proved_bytes.give_proved.Goals as goal

pub returns-else-proved-ne0 : goal.returns-else-proved-ne0
returns-else-proved-ne0 c = sym (with_nothing c.args.proved c.args.state.now (omega arith))
