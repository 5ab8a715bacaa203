use Rattle.filtering.proofs.Common.{take, behind, waiting}
use Rattle.std.proofs.Math.Logic.{∥∥₁_map}
use Rattle.filtering.proofs.CapturingLaws.{captured-whole, on_ok-map}
use Rattle.filtering.proofs.files.run_captured.Goals as goal

pub returns-clause-captures : goal.returns-clause-captures
returns-clause-captures g c =
    let s = c.run_wanted.new.sent in
    on_ok-map _ _ c.run_wanted.result (λ done.
    ∥∥₁_map s.so_far (λ w. captured-whole g.T.Followed.form s.written.form s.failure s.written.version
    (take s.count s.part) s.written.described s.written.lost g.T.Followed.origin
    (g.T.Followed.handed s.trail) g.T.Followed.before (g.W2.Write.contents (behind s.output))
    (waiting s.output) s.formed done.0 done.1 w)) c.run_wanted.ensures.whole
