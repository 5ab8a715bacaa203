use Rattle.std.proofs.Common.{◌∙◌}
use Rattle.words.proofs.Words.{first_value-first_of}
use Rattle.words.proofs.asked.value_in.Goals as goal

pub returns : goal.returns
returns c = c.get_str.ensures ∙ first_value-first_of c.args.matches.now c.args.name.now
