use Rattle.std.proofs.Common.{rules}
use Rattle.insn_codec.proofs.fields.Fields.wide.Goals as goal

pub returns-in_default-2 : goal.returns-in_default-2
returns-in_default-2 c = search rules
