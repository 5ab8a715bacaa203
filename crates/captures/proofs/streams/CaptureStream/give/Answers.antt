use Rattle.captures.proofs.Common.{arith, ◌≡◌, ℕ, ◌+◌, ◌-◌, List, ◌++◌, length, take, drop, slice_range, min, ap, ◌∙◌, length-drop, option_map, length-take-le, bytes_left, stream_rest}
use Rattle.frames.proofs.BuffersLaws.{less_ahead, Consumes-prepended}
use Rattle.captures.proofs.StreamLaws.{rest-ended}
use Rattle.captures.proofs.streams.CaptureStream.give.Goals as goal

pub returns-clause-bytes : goal.returns-clause-bytes
returns-clause-bytes g c =
    let s = c.args.self.now in
    let size = c.in_ok-size.size in
    let known = bytes_left g.R.Source.remaining s.reader in
    let rest = option_map (stream_rest s.ended s.reader.position) known in
    let front = slice_range s.held s.given s.count in
    let long : length front ≡ s.count - s.given =
    length-take-le (s.count - s.given) (drop s.given s.held)
    (omega (arith, length-drop s.given s.held)) in
    let few : size ≡ min (length front) (length c.args.buffer.now) =
    let h = c.in_ok-size.ensures.count in cc in
    let left : c.read.new.self.now ≡ slice_range s.held (s.given + size) s.count =
    c.in_ok-size.ensures.rest ∙ less_ahead s.held s.given size s.count (omega arith) in (
      Consumes-prepended front (take size c.read.new.buf)
          (slice_range s.held (s.given + size) s.count) rest
          (c.in_ok-size.ensures.bytes.0
          ∙ ap (λ (l : List ℕ). take size c.read.new.buf ++ l) left),
      λ none some. rest-ended s.held (s.given + size) s.count s.ended s.reader.position known
          (omega arith) (c.requires (omega arith)),
    )
