use Rattle.exact_io.specs.Waiting.{waiting}
use Rattle.filtering.proofs.CapturingLaws.{begins-reached}
use Rattle.filtering.proofs.sending.CaptureWriterSentOutput.deliver.Goals as goal

pub returns-clause-begins : goal.returns-clause-begins
returns-clause-begins g c =
    let s = c.flush.new.self in
    begins-reached s.failure (waiting s.output) (g.T.Followed.handed c.args.self.now.trail)
    (g.T.Followed.handed s.trail) c.flush.ensures.bytes
