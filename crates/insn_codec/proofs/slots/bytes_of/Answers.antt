use Rattle.std.proofs.Common.{rules}
use Rattle.insn_codec.proofs.slots.bytes_of.Goals as goal

pub returns : goal.returns
returns c = search rules
