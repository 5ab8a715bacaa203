use Rattle.std.proofs.Common.{rules}
use Rattle.state_cover.proofs.frame_covers.Goals as goal

pub returns-clause-yes : goal.returns-clause-yes
returns-clause-yes c = search rules

pub returns-clause-no : goal.returns-clause-no
returns-clause-no c = search rules
