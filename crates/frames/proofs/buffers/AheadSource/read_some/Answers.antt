use Rattle.frames.proofs.Common.{arith, ◌≡◌, ℕ, ◌+◌, ◌-◌, ◌≤◌, List, ◌++◌, length, take, drop, slice_range, min, Option, sym, ap, ◌∙◌, subst, length-drop, length-take-le, ReadConsumes, prepend_known, reader_remaining}
use Rattle.frames.proofs.BuffersLaws.{none_ahead, less_ahead, Consumes-prepended}
use Rattle.frames.proofs.buffers.AheadSource.read_some.Goals as goal

pub returns-then-self-clause-bytes : goal.returns-then-self-clause-bytes
returns-then-self-clause-bytes g c =
    let a = c.args.self.now in
    let old = reader_remaining g.R.Read.remaining a.source.reader in
    let new = reader_remaining g.R.Read.remaining c.read.new.self.reader in
    let later = prepend_known (slice_range a.front a.given a.count) new in
    subst (λ (k : Option (List ℕ)). ReadConsumes k later c.read.result c.read.new.buffer)
    (sym (none_ahead a.front a.given a.count old c.if-self.true))
    (subst (λ (k : Option (List ℕ)). ReadConsumes old k c.read.result c.read.new.buffer)
    (sym (none_ahead a.front a.given a.count new c.if-self.true)) c.read.ensures.bytes)

pub returns-clause-bytes : goal.returns-clause-bytes
returns-clause-bytes g c =
    let a = c.args.self.now in
    let size = c.in_ok-size.size in
    let rest = reader_remaining g.R.Read.remaining a.source.reader in
    let front = slice_range a.front a.given a.count in
    let long : length front ≡ a.count - a.given =
    length-take-le (a.count - a.given) (drop a.given a.front)
    (omega (arith, length-drop a.given a.front)) in
    let few : size ≡ min (length front) (length c.args.buffer.now) =
    let h = c.in_ok-size.ensures.count in cc in
    let left : c.read-2.new.self.now ≡ slice_range a.front (a.given + size) a.count =
    c.in_ok-size.ensures.rest ∙ less_ahead a.front a.given size a.count (omega arith) in (
      Consumes-prepended front (take size c.read-2.new.buf)
          (slice_range a.front (a.given + size) a.count) rest
          (c.in_ok-size.ensures.bytes.0
          ∙ ap (λ (l : List ℕ). take size c.read-2.new.buf ++ l) left),
      λ none some. absurd (omega arith),
    )
