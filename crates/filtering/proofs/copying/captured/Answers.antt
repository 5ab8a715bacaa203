use Rattle.filtering.proofs.Common.{take, behind, waiting}
use Rattle.filtering.proofs.CapturingLaws.{captures-all}
use Rattle.filtering.proofs.copying.captured.Goals as goal

pub returns-clause-captures : goal.returns-clause-captures
returns-clause-captures g c =
    let s = c.copied.new.sent in
    captures-all g.T.Followed.form s.written.form _ _ s.failure s.written.version
    (take s.count s.part) s.written.described s.written.lost _ (g.T.Followed.handed s.trail)
    g.T.Followed.origin g.T.Followed.before (g.W.Write.contents (behind s.output))
    (waiting s.output) s.formed s.so_far _ c.copied.result c.copied.ensures.whole
    c.copied.ensures.copies
