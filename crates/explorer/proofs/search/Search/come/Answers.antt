use Rattle.explorer.proofs.Common.{subst, IfOk, IfErr, IfOk-weaker, IfErr-weaker, StopsAt, Arrives, RefusesArrival, AfterMove, precision_in}
use Rattle.explorer.proofs.SearchMoves.{comes_to}
use Rattle.explorer.proofs.Walking.{arrival_refused}
use Rattle.explorer.proofs.search.Search.come.Goals as goal

pub returns-clause-moves : goal.returns-clause-moves
returns-clause-moves c =
    let p = c.args.flow.now in
    let old = c.args.self.now in
    let new = c.arrive.new.states.states.items in
    IfOk-weaker c.arrive.result
    (λ made. Arrives p old.states.states.items old.current made new)
    (λ made. AfterMove p
    (record old { states = c.arrive.new.states; scratch = c.arrive.new.scratch }) made)
    (λ made arrives. comes_to p old c.arrive.new.states c.arrive.new.scratch made c.requires.comes
    arrives)
    (subst (λ s. IfOk c.arrive.result (λ made. Arrives p old.states.states.items s made new))
    c.state.ensures c.arrive.ensures.arrives)

pub returns-clause-stops : goal.returns-clause-stops
returns-clause-stops c =
    let p = c.args.flow.now in
    let old = c.args.self.now in
    let at = c.requires.comes.at in
    IfErr-weaker c.arrive.result (λ r. RefusesArrival p old.states.states.items old.current r.0 r.1)
    (λ r. StopsAt (precision_in old.kept) p r.0 r.1)
    (λ r refuses. arrival_refused p old.finished old.states.states.items old.path.items at.first
    old.current r.0 r.1 at.begins at.path c.requires.comes.on_path refuses)
    (subst (λ s. IfErr c.arrive.result (λ r. RefusesArrival p old.states.states.items s r.0 r.1))
    c.state.ensures c.arrive.ensures.refused)
