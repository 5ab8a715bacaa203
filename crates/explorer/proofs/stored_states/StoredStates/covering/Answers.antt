use Rattle.explorer.proofs.Common.{◌≡◌, ◌∙◌, Some, ap, sym, arith, subst, slice_get, ltb-true, State, Covers, StoredState}
use Rattle.explorer.proofs.StoredStatesLaws.{found_at, read_at}
use Rattle.explorer.proofs.stored_states.StoredStates.covering.Goals as goal
use Rattle.explorer.proofs.stored_states.StoredStates.covering.Goals.{In_ok-stored, then-stored-eq0-via-then-stored-eq0, then-stored-eq0-via-else-stored-eq0+then-not-may_cover}

found_of : (c : In_ok-stored)
    → slice_get c.args.self.now.states.items c.args.index ≡ Some c.in_ok-stored.stored.now
found_of c =
    found_at c.args.self.now.states.items c.deref.result.now c.args.index c.in_ok-stored.stored.now
    c.deref.ensures.value (ltb-true _ _ (sym c.in_ok-stored.ensures.lookup.0))
    c.in_ok-stored.ensures.lookup.1

pub returns-then-stored-eq0-clause-equal : goal.returns-then-stored-eq0-clause-equal
returns-then-stored-eq0-clause-equal c = λ n is some.
    let found = found_of (goal.at.returns-then-stored-eq0-clause-equal c).In_ok-stored in
    let read =
    read_at c.args.self.now.states.items c.args.index c.in_ok-stored.stored.now c.args.state.now n
    found is in
    elim c.then-stored-eq0.branch [
      | then-stored-eq0-via-then-stored-eq0 w ↦
          absurd (omega (
            arith,
            some,
            w.if-stored-eq0.true,
            ap (λ (x : StoredState). x.number) read,
          ))
      | then-stored-eq0-via-else-stored-eq0+then-not-may_cover w ↦
          absurd (cc (
            w.may_cover.ensures (ap (λ (x : StoredState). x.state) read),
            w.if-not-may_cover.true,
          ))
    ]

pub returns-then-not-covers-clause-equal : goal.returns-then-not-covers-clause-equal
returns-then-not-covers-clause-equal c = λ n is some.
    let found = found_of (goal.at.returns-then-not-covers-clause-equal c).In_ok-stored in
    let read =
    read_at c.args.self.now.states.items c.args.index c.in_ok-stored.stored.now c.args.state.now n
    found is in
    absurd (cc (
      c.covers.ensures.equal
          (c.restore.ensures ∙ ap (λ (x : StoredState). x.state) read),
      c.if-not-covers.true,
    ))

pub returns-clause-equal : goal.returns-clause-equal
returns-clause-equal c = λ n is some.
    let found = found_of (goal.at.returns-clause-equal c).In_ok-stored in
    let read =
    read_at c.args.self.now.states.items c.args.index c.in_ok-stored.stored.now c.args.state.now n
    found is in
    ap (λ (x : StoredState). Some x.number) read

pub returns-clause-covered : goal.returns-clause-covered
returns-clause-covered c =
    let s = c.args.state.now in
    record {
      other = c.in_ok-stored.stored.now.state;
      stored = found_of (goal.at.returns-clause-covered c).In_ok-stored;
      finished = omega (arith, c.if-stored-eq0.false);
      same_slot = subst (λ (o : State). o.slot ≡ s.slot) c.restore.ensures
          (c.covers.ensures.slot c.if-not-covers.false);
      covers = λ p. subst (λ o. Covers p o s) c.restore.ensures
          (c.covers.ensures.yes c.if-not-covers.false p);
    }
