use Rattle.kept_states.proofs.Common.{◌∙◌, ◌∷◌, [], reverse, length, length-append, sym, ap, arith, States}
use Rattle.kept_states.proofs.PendingLaws.{length-pending_states, no_items, pending_more}
use Rattle.kept_states.proofs.pending.PendingStates.pop.Goals as goal

pub returns-in_default-clause-none : goal.returns-in_default-clause-none
returns-in_default-clause-none c = λ _.
    let states = c.self.inside.states.items in
    let count = length-pending_states c.self.inside.changing states in
    let whole = ap (λ (v : States). length v.items) c.self.view_is in
    no_items c.args.self.now.items
    (omega (arith, count, whole, c.in_default.ensures.cases.0, c.self.inside.states.ok.0))

pub returns-in_default-take_back-clause-err : goal.returns-in_default-take_back-clause-err
returns-in_default-take_back-clause-err c =
    let before = length-pending_states c.self.inside.changing c.self.inside.states.items in
    let after = length-pending_states c.take_back.new.self c.pop.new.self.items in
    let whole = ap (λ (v : States). length v.items) c.self.view_is in
    omega (
      arith,
      before,
      after,
      whole,
      ap length c.in-Some.ensures.items,
      length-append c.pop.new.self.items (c.in-Some.state ∷ []),
    )

pub returns-clause-items : goal.returns-clause-items
returns-clause-items c =
    let states = c.pop.new.self.items in
    ap (λ (v : States). v.items) (sym c.self.view_is)
    ∙ pending_more c.take_back.new.self c.self.inside.changing states
    c.self.inside.states.items c.in-Some.state c.in-Ok.state c.in-Some.ensures.items
    (c.in-Ok.ensures (reverse states))
