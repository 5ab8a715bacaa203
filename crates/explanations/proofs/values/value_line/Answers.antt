use Rattle.std.proofs.Common.{rules}
use Rattle.explanations.proofs.Texts.{flat_map_one}
use Rattle.explanations.proofs.values.value_line.Goals as goal

pub returns : goal.returns
returns c = search (rules, flat_map_one)
