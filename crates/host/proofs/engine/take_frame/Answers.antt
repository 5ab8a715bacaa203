use Rattle.std.proofs.lemmas.Bool.{eq-eqb, ne_eqb}
use Rattle.host.proofs.engine.take_frame.Goals as goal

pub returns-then-frame-eq0-clause-writes : goal.returns-then-frame-eq0-clause-writes
returns-then-frame-eq0-clause-writes g c =
    rw (eq-eqb c.args.frame.reason 0 c.if-frame-eq0.true) c.run_frame.ensures.writes

pub returns-then-frame-eq0-clause-contents : goal.returns-then-frame-eq0-clause-contents
returns-then-frame-eq0-clause-contents g c =
    rw (eq-eqb c.args.frame.reason 0 c.if-frame-eq0.true) c.run_frame.ensures.contents

pub returns-then-frame-eq0-clause-noted : goal.returns-then-frame-eq0-clause-noted
returns-then-frame-eq0-clause-noted g c =
    rw (eq-eqb c.args.frame.reason 0 c.if-frame-eq0.true) c.run_frame.ensures.noted

pub returns-else-frame-eq0-clause-writes : goal.returns-else-frame-eq0-clause-writes
returns-else-frame-eq0-clause-writes g c =
    rw (ne_eqb c.args.frame.reason 0 c.if-frame-eq0.false) c.skip_frame.ensures.writes

pub returns-else-frame-eq0-clause-contents : goal.returns-else-frame-eq0-clause-contents
returns-else-frame-eq0-clause-contents g c =
    rw (ne_eqb c.args.frame.reason 0 c.if-frame-eq0.false) c.pass_over.ensures.contents

pub returns-else-frame-eq0-clause-noted : goal.returns-else-frame-eq0-clause-noted
returns-else-frame-eq0-clause-noted g c =
    rw (ne_eqb c.args.frame.reason 0 c.if-frame-eq0.false) c.pass_over.ensures.noted
