use Rattle.std.proofs.Common.{rules}
use Rattle.explanations.proofs.kinds.packet_words.Goals as goal

pub returns : goal.returns
returns c = search rules
