use Rattle.captures.proofs.Common.{take, ∥∥₁_map, held}
use Rattle.captures.proofs.WritingLaws.{so_far-kept, so_far-stopped}
use Rattle.captures.proofs.writer.CaptureWriterWrite.flush.Goals as goal

pub invariant_of-self : goal.invariant_of-self
invariant_of-self g c =
    let s = c.settle.new.self in
    record {
      ordered = s.ordered;
      inside = s.inside;
      headed = s.headed;
      formed = s.formed;
      so_far = ∥∥₁_map s.so_far
          (λ w. so_far-kept s.written.form s.failure s.written.version (take s.count s.part)
          s.written.described s.written.lost g.T.Followed.origin (g.T.Followed.handed s.trail)
          g.T.Followed.before (held g.W.Write.contents s.output)
          (held g.W.Write.contents c.flush.new.self) c.flush.ensures.bytes w);
    }

pub invariant_of-self-in-Err-flush : goal.invariant_of-self-in-Err-flush
invariant_of-self-in-Err-flush g c =
    let s = c.settle.new.self in
    record {
      ordered = s.ordered;
      inside = s.inside;
      headed = s.headed;
      formed = s.formed;
      so_far = ∥∥₁_map s.so_far
          (λ w. so_far-stopped s.written.form s.failure s.written.version (take s.count s.part)
          s.written.described s.written.lost g.T.Followed.origin (g.T.Followed.handed s.trail)
          g.T.Followed.before (held g.W.Write.contents s.output)
          (held g.W.Write.contents c.flush.new.self) c.in-Ok.ensures.failure
          c.flush.ensures.bytes w);
    }
