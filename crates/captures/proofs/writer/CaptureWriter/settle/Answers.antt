use Rattle.captures.proofs.Common.{◌≡◌, take, arith, ∥∥₁_map, held}
use Rattle.captures.specs.declared.taking.PartTaken.TheVariants as taken
use Rattle.captures.proofs.WritingLaws.{so_far-begun, so_far-failed, so_far-written}
use Rattle.captures.proofs.writer.CaptureWriter.settle.Goals as goal

pub invariant_of-self : goal.invariant_of-self
invariant_of-self g c =
    let s = c.args.self.now in
    let is : c.in-Ok-Begun.field-0 ≡ taken.Begun c.in-Ok-Begun.version =
    cc c.in-Ok-Begun.field-0-is in
    record {
      ordered = omega arith;
      inside = omega (arith, c.least_part-self.ensures.few);
      headed = omega (arith, c.least_part-self.ensures.least);
      formed = s.formed;
      so_far = ∥∥₁_map s.so_far (λ w.
          so_far-begun s.written.form s.failure s.written.version c.in-Ok-Begun.version
          (take s.count s.part) s.written.described s.written.lost g.T.Followed.origin
          (g.T.Followed.handed s.trail) g.T.Followed.before
          (held g.W.Write.contents s.output) (held g.W.Write.contents c.take_part.new.output)
          c.requires c.in-Ok-Begun.field-0 is c.in-Ok-Begun.ensures w);
    }

pub invariant_of-self-in-Ok-Written : goal.invariant_of-self-in-Ok-Written
invariant_of-self-in-Ok-Written g c =
    let s = c.args.self.now in
    let is : c.in-Ok-Written.field-0
    ≡ taken.Written c.in-Ok-Written.described c.in-Ok-Written.lost =
    cc c.in-Ok-Written.field-0-is in
    record {
      ordered = omega arith;
      inside = omega (arith, c.least_part-self-in-Ok-Written.ensures.few);
      headed = omega (arith, c.least_part-self-in-Ok-Written.ensures.least);
      formed = s.formed;
      so_far = ∥∥₁_map s.so_far (λ w.
          so_far-written s.written.form s.failure s.written.version (take s.count s.part)
          s.written.described c.in-Ok-Written.described s.written.lost c.in-Ok-Written.lost
          g.T.Followed.origin (g.T.Followed.handed s.trail) g.T.Followed.before
          (held g.W.Write.contents s.output) (held g.W.Write.contents c.take_part.new.output)
          c.requires c.in-Ok-Written.field-0 is c.in-Ok-Written.ensures w);
    }

pub invariant_of-self-in-Err : goal.invariant_of-self-in-Err
invariant_of-self-in-Err g c =
    let s = c.args.self.now in
    record {
      ordered = s.ordered;
      inside = s.inside;
      headed = s.headed;
      formed = s.formed;
      so_far = ∥∥₁_map s.so_far (λ w.
          so_far-failed s.written.form s.failure s.written.version (take s.count s.part)
          s.written.described s.written.lost c.in-Err.kind g.T.Followed.origin
          (g.T.Followed.handed s.trail) g.T.Followed.before
          (held g.W.Write.contents s.output) (held g.W.Write.contents c.take_part.new.output)
          c.requires c.in-Err.ensures w);
    }
