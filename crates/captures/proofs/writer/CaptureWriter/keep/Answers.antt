use Rattle.captures.proofs.Common.{◌≡◌, ◌∙◌, ℕ, ◌+◌, ◌-◌, List, ◌++◌, length, take, ap, subst, sym, arith, ∥∥₁_map, take-put_mid, put_mid, held}
use Rattle.captures.specs.Writing.{IsWrittenSoFar}
use Rattle.captures.proofs.WritingLaws.{so_far-more}
use Rattle.captures.proofs.writer.CaptureWriter.keep.Goals as goal

pub invariant_of-self : goal.invariant_of-self
invariant_of-self g c =
    let s = c.args.self.now in
    let size = c.min-size.result in
    let more = take size c.args.bytes.now in
    let piece = c.copy_from_slice.new.self in
    let long : s.count + size ≡ s.count + length piece =
    omega (arith, c.copy_from_slice.ensures.len) in
    let grown : take (s.count + size) (put_mid s.count (s.count + size - s.count) s.part piece)
    ≡ take s.count s.part ++ more =
    take-put_mid s.count (s.count + size - s.count) s.part piece (s.count + size) long
    (omega (arith, s.ordered, s.inside))
    ∙ ap (λ (l : List ℕ). take s.count s.part ++ l) c.copy_from_slice.ensures.after in
    record {
      ordered = omega (arith, s.ordered, c.min-size.ensures);
      inside = s.inside;
      headed = s.headed;
      formed = s.formed;
      so_far = ∥∥₁_map s.so_far (λ w.
          subst (λ (l : List ℕ). IsWrittenSoFar s.written.form s.failure s.written.version l
          s.written.described s.written.lost g.T.Followed.origin
          (g.T.Followed.handed c.note.new.self) g.T.Followed.before
          (held g.W.Write.contents s.output)) (sym grown)
          (so_far-more s.written.form s.failure s.written.version (take s.count s.part) more
          s.written.described s.written.lost g.T.Followed.origin (g.T.Followed.handed s.trail)
          (g.T.Followed.handed c.note.new.self) g.T.Followed.before
          (held g.W.Write.contents s.output)
          c.requires c.note.ensures w));
    }
