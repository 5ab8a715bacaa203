use Rattle.explorer.proofs.Common.{iff_false, refl, Coarse}
use Rattle.explorer.proofs.Stopping.{closed_ends, open_told, not_open}
use Rattle.explorer.proofs.listened.find_bound.Goals as goal

-- ---- where the search decides

pub returns-then-not-is_open-clause-follows : goal.returns-then-not-is_open-clause-follows
returns-then-not-is_open-clause-follows g c =
    let p = c.args.flow.now in
    let explored = c.explore-result in
    rw c.of.ensures
    (closed_ends explored.result explored.new.self.kept p
    (λ how. g.L.Listener.follows explored.new.listener how p)
    (iff_false c.is_open.ensures c.if-not-is_open.true) explored.ensures.ends)

-- ---- where it is made again

pub explore-result-requires-2-clause-untold : goal.explore-result-requires-2-clause-untold
explore-result-requires-2-clause-untold g c = λ how.
    let p = c.args.flow.now in
    let explored = c.explore-result in
    let (path, last, told) =
    open_told explored.result explored.new.self.kept p
    (λ how. g.L.Listener.follows explored.new.listener how p)
    (c.is_open.ensures.0 c.if-not-is_open.false) explored.ensures.ends in
    c.in_default.ensures Coarse how p path last told

pub returns-clause-follows : goal.returns-clause-follows
returns-clause-follows g c =
    let p = c.args.flow.now in
    let explored = c.explore-result-2 in
    rw c.of-2.ensures
    (closed_ends explored.result explored.new.self.kept p
    (λ how. g.L.Listener.follows explored.new.listener how p)
    (not_open explored.result explored.new.self.kept (explored.ensures.exact refl))
    explored.ensures.ends)
