use Rattle.std.proofs.Common.{rules}
use Rattle.reg_state.proofs.kinds.Kind.covers_packet.Goals as goal

pub returns-then-fixed-other_fixed-clause-no : goal.returns-then-fixed-other_fixed-clause-no
returns-then-fixed-other_fixed-clause-no c = search rules

pub returns-else-greatest-other_greatest-clause-yes
    : goal.returns-else-greatest-other_greatest-clause-yes
returns-else-greatest-other_greatest-clause-yes c = search rules
