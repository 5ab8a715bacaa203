use Rattle.explorer.proofs.Common.{◌≢◌, ◌∷◌, subst, StopsAt, TooLong, StepFails, IsNoFiner, precision_in}
use Rattle.explorer.proofs.Stopping.{halted}
use Rattle.explorer.proofs.Telling.{refused_step, told_step, ShowsStep-as, StepFails-as}
use Rattle.explorer.proofs.search.Search.advance.Goals as goal

pub returns-in-Err-clause-ends : goal.returns-in-Err-clause-ends
returns-in-Err-clause-ends g c = λ how fine.
    let p = c.args.flow.now in
    let search = c.args.self.now in
    let refused = c.in-Err.refused in
    c.halt.ensures.ends how p
    (refused_step how p
    (g.L.Listener.follows c.args.listener.now how p) search.path.items search.current
    c.step.new.self.current refused.0 refused.1 (c.requires.told how fine)
    (StepFails-as how (precision_in search.kept) p search.current c.step.new.self.current refused.0
    refused.1 fine c.in-Err.ensures.fails))

pub settle-requires-clause-untold : goal.settle-requires-clause-untold
settle-requires-clause-untold g c = λ how fine.
    let p = c.args.flow.now in
    let search = c.args.self.now in
    let finer =
    subst (λ k. IsNoFiner how (precision_in k)) c.step.ensures.kept fine in
    let h = c.requires.told how finer in
    told_step how p (g.L.Listener.follows c.stepped.new.self how p)
    search.path.items c.step.new.self.path.items
    search.current c.step.new.self.current c.in-Ok.stepped.1
    (record {
      states = h.states;
      visited = h.visited;
      told = c.in_default.ensures how p (search.current ∷ h.states) search.current h.told;
    })
    (ShowsStep-as how (precision_in search.kept) p search.current search.path.items
    c.in-Ok.stepped.1
    c.step.new.self.path.items c.step.new.self.current finer c.in-Ok.ensures.steps)

pub returns-in-Err-clause-stops : goal.returns-in-Err-clause-stops
returns-in-Err-clause-stops g c =
    halted c.halt.result c.in-Err.refused.0 c.in-Err.refused.1
    (StopsAt (precision_in c.step.new.self.kept) c.args.flow.now)
    c.halt.ensures.same c.in-Err.ensures.stops

pub returns-in-Err-clause-not_long : goal.returns-in-Err-clause-not_long
returns-in-Err-clause-not_long g c =
    let refused = c.in-Err.refused in
    halted c.halt.result refused.0 refused.1 (λ e slot. e ≢ TooLong) c.halt.ensures.same
    (λ is. subst (λ e. StepFails (precision_in c.args.self.now.kept) c.args.flow.now
    c.args.self.now.current
    c.step.new.self.current e refused.1) is c.in-Err.ensures.fails)
