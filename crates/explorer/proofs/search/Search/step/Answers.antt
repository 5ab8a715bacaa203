use Rattle.explorer.proofs.Common.{◌≡◌, ◌+◌, [], ◌∷◌, ◌++◌, Some, length, arith, refl, sym, ap, ◌∙◌, subst, err_from_is_err_and, fetch, RefusesStep, beside, State, Search, Visit, Visits, precision_in, StepsTo, Forgets, Forgets-forgotten, ItsOwn}
use Rattle.transfer.specs.declared.Ways.TheVariants as ways
use Rattle.explorer.proofs.Counting.{spent_here}
use Rattle.explorer.proofs.Walking.{Path-walks, into_by}
use Rattle.explorer.proofs.SearchMoves.{Entered, fetched, one_way, two_ways, comes_into, step_ends}
use Rattle.explorer.proofs.Telling.{steps_by_arrival, step_fails}
use Rattle.explorer.proofs.search.Search.step.Goals as goal
use Rattle.explorer.proofs.search.Search.step.Goals.{After-push, in-One, in-Two+in-Ok-keep_other}

pub returns-in-Err-clause-stops : goal.returns-in-Err-clause-stops
returns-in-Err-clause-stops c =
    let p = c.args.flow.now in
    let q = c.args.image.now in
    let s = c.args.self.now.current in
    let at = c.requires.at in
    let (i, here) = fetched p s at.ready in
    let there : fetch q s.slot ≡ Some i =
    subst (λ x. fetch x s.slot ≡ Some i) c.requires.image here in
    record {
      state = s;
      steps = length c.args.self.now.path.items;
      walk =
          Path-walks p c.args.self.now.finished c.args.self.now.states.states.items
          c.args.self.now.path.items at.at.first s at.at.begins at.at.path;
      slot_is = c.slot-slot.ensures;
      begins = rw c.slot-slot.ensures at.ready.insn_begins;
      insn = i;
      here = here;
      refused = subst (λ x. RefusesStep x s i c.in-Err.refusal) (sym c.requires.image)
          (c.step.new.self, c.step.new.other, c.in-Err.ensures.steps i there);
    }

pub returns-in-None-clause-moves : goal.returns-in-None-clause-moves
returns-in-None-clause-moves c =
    let p = c.args.flow.now in
    let q = c.args.image.now in
    let search = c.args.self.now in
    let s = search.current in
    let a = c.step.new.self in
    let b = beside c.in-Ok.left.1 a c.step.new.other in
    let at = c.requires.at in
    let total = search.finished + length search.path.items in
    let (i, here) = fetched p s at.ready in
    let into =
    into_by p q s a b a b c.in-Ok.left.0 ways.None c.requires.image c.in-Ok.ensures.steps i here
    c.in-None.is tt in
    let back = step_ends p q search.finished search.states.states.items
    c.finish.new.self.states.items at.at.first search.path.items c.args.stored s a b
    c.in-Ok.left.0
    at.at.begins c.requires.image at.at.fine at.at.path at.stored_at at.on_path
    c.in-Ok.ensures.leads into c.in-None.is c.finish.ensures in
    record {
      state = back.state;
      at =
          record {
            fine = back.fine;
            first = at.at.first;
            begins = at.at.begins;
            path = back.before;
          };
      on_path = back.on_path;
      settled = back.settled;
      spent =
          spent_here p at.at.first search.path.items s total 1
          (search.finished + 1 + length search.path.items) at.counts
          (ItsOwn s 1 at.ready.insn_begins refl) (omega arith);
      some = omega arith;
      most = back.most;
    }

-- ---- where the path continues

entered_of : (c : After-push)
    → Entered (precision_in c.args.self.now.kept) c.args.flow.now c.args.self.now.finished
    c.args.self.now.states.states.items
    (record { pending = c.match-ways.pending; best = 0; stored = c.args.stored })
    c.args.self.now.current c.forget_at.new.self
entered_of c =
    let how = precision_in c.args.self.now.kept in
    let p = c.args.flow.now in
    let q = c.args.image.now in
    let m = c.args.self.now.finished in
    let states = c.args.self.now.states.states.items in
    let s = c.args.self.now.current in
    let a = c.step.new.self in
    let b = beside c.in-Ok.left.1 a c.step.new.other in
    let first = c.forget_at.new.self in
    let at = c.requires.at in
    let pending = c.match-ways.pending in
    elim c.match-ways.branch [
      | in-One w ↦
          let forgets : Forgets how p a first =
          subst (λ (x : Search). Forgets (precision_in x.kept) p x.current first) w.self-is
          c.in-Ok-forget_at.ensures.forgets in
          one_way p q m states c.args.stored s a b first c.in-Ok.left.0 pending
          c.requires.image c.requires.good at.ready at.stored_at c.in-Ok.ensures.leads
          c.in-Ok.ensures.steps c.in-Ok.ensures.follows forgets w.in-One.is w.pending-is
      | in-Two+in-Ok-keep_other w ↦
          let forgets : Forgets how p a first =
          subst (λ (x : Search). Forgets (precision_in x.kept) p x.current first) (w.self-is ∙ w.keep_other.ensures.rest)
          c.in-Ok-forget_at.ensures.forgets in
          two_ways p q m states c.args.stored s a b first w.in-Ok-keep_other.other c.in-Ok.left.0
          pending c.requires.image c.requires.good at.ready at.stored_at c.in-Ok.ensures.leads
          c.in-Ok.ensures.steps c.in-Ok.ensures.follows forgets
          w.in-Ok-keep_other.ensures.forgets w.in-Two.is w.pending-is
    ]

search_of : (c : After-push)
    → (scratch : State)
    × (c.match-ways.self
    ≡ record c.args.self.now { current = c.step.new.self; scratch = scratch })
search_of c = elim c.match-ways.branch [
  | in-One w ↦ (c.step.new.other, w.self-is)
  | in-Two+in-Ok-keep_other w ↦ (w.keep_other.new.self.scratch, w.self-is ∙ w.keep_other.ensures.rest)
]

pub come-requires-clause-comes : goal.come-requires-clause-comes
come-requires-clause-comes c =
    let w = (goal.at.come-requires-clause-comes c).After-push in
    let (scratch, same) = search_of w in
    let visit : Visit =
    record { pending = c.match-ways.pending; best = 0; stored = c.args.stored } in
    comes_into c.args.flow.now c.args.self.now _ c.args.stored c.match-ways.pending
    c.forget_at.new.self
    (c.forget_at.ensures.same ∙ ap (λ (x : Search). x.states.states.items) same)
    (ap (λ (x : Search). x.finished) same)
    (c.in-Ok-push.ensures.items ∙ ap (λ (x : Search). x.path.items ++ visit ∷ []) same) refl
    (ap (λ (x : Search). x.kept) same) c.requires.at
    (entered_of w)

pub come-requires-clause-forgotten : goal.come-requires-clause-forgotten
come-requires-clause-forgotten c = λ new.
    Forgets-forgotten c.args.flow.now c.match-ways.self.current c.forget_at.new.self
    c.in-Ok-forget_at.ensures.forgets

pub returns-in_err-made-clause-fails : goal.returns-in_err-made-clause-fails
returns-in_err-made-clause-fails c =
    let w = (goal.at.returns-in_err-made-clause-fails c).After-push in
    let refusal = c.in_err-made.field-0.0 in
    let given = err_from_is_err_and c.from_residual.result c.from_residual.ensures.1 in
    rw (given.1, given.2)
    (step_fails (precision_in c.args.self.now.kept) c.args.flow.now c.args.self.now.current
    c.forget_at.new.self
    c.come.new.self.current refusal.0 refusal.1 c.come.ensures.current
    (entered_of w).waiting.steps c.in_err-made.ensures.fails)

pub returns-clause-steps : goal.returns-clause-steps
returns-clause-steps c =
    let w = (goal.at.returns-clause-steps c).After-push in
    let visit : Visit =
    record { pending = c.match-ways.pending; best = 0; stored = c.args.stored } in
    let (scratch, same) = search_of w in
    let entered = entered_of w in
    steps_by_arrival (precision_in c.args.self.now.kept) c.args.flow.now c.args.self.now.current
    c.args.self.now.path.items
    c.come.new.self.path.items c.come.new.self.current c.in_ok-made.made
    c.in_ok-made.ensures.arrival (record {
      visit = visit;
      pushed =
          ap (λ (x : Visits). x.items) c.come.ensures.path
          ∙ (c.in-Ok-push.ensures.items ∙ ap (λ (x : Search). x.path.items ++ visit ∷ []) same);
      steps =
          subst
          (StepsTo (precision_in c.args.self.now.kept) c.args.flow.now c.args.self.now.current)
          (sym c.come.ensures.current) entered.waiting.steps;
      aside = entered.waiting.steps_aside;
    })

pub returns-clause-kept : goal.returns-clause-kept
returns-clause-kept c =
    let (scratch, same) = search_of (goal.at.returns-clause-kept c).After-push in
    c.come.ensures.kept ∙ ap (λ (x : Search). x.kept) same
