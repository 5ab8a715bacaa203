use Rattle.std.proofs.Common.{rules}
use Rattle.transfer.proofs.helpers.answer_value.Goals as goal

pub returns : goal.returns
returns c = search rules
