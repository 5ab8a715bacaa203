use Rattle.std.proofs.Common.{◌*◌, ◌%◌, ◌^◌, ◌<◌, arith}
use Rattle.ranges.proofs.Limits.{shl_whole_at, shl_mono, shl_within}
use Rattle.ranges.proofs.wide.Wide.shift_left.Goals as goal

pub returns-then-self-by-clause-contains : goal.returns-then-self-by-clause-contains
returns-then-self-by-clause-contains c = λ x hx.
    let g = c.args.self.greatest in
    let k = c.args.by in
    let o = c.args.self.ordered in
    let t = c.if-self-by.true in
    rw (shl_whole_at x g k hx.to t)
    ((c.between.ensures.members _).1 (
      rw (shl_whole_at c.args.self.least g k o t) (shl_mono _ x k hx.from),
      rw (shl_whole_at g g k (omega arith) t) (shl_mono x g k hx.to),
    ))

pub returns-else-self-by-clause-contains : goal.returns-else-self-by-clause-contains
returns-else-self-by-clause-contains c =
    λ x hx. (c.any.ensures.members _).1
    (let b : (x * 2 ^ c.args.by) % 2 ^ 64 < 2 ^ 64 = omega arith in b)

pub returns-else-self-by-clause-limits : goal.returns-else-self-by-clause-limits
returns-else-self-by-clause-limits c =
    λ fits. absurd (let l = shl_within c.args.self.greatest c.args.by fits in omega arith)
