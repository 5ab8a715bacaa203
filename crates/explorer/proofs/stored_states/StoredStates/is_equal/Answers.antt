use Rattle.explorer.proofs.Common.{◌≡◌, ◌∙◌, ℕ, Some, ap, sym, subst, slice_get, ltb-true, State, Covers, StoredState}
use Rattle.explorer.proofs.StoredStatesLaws.{found_at, read_at}
use Rattle.explorer.proofs.stored_states.StoredStates.is_equal.Goals as goal
use Rattle.explorer.proofs.stored_states.StoredStates.is_equal.Goals.{In-Some}

found_of : (c : In-Some)
    → slice_get c.args.self.now.states.items c.args.index ≡ Some c.in-Some.stored.now
found_of c =
    found_at c.args.self.now.states.items c.deref.result.now c.args.index c.in-Some.stored.now
    c.deref.ensures.value (ltb-true _ _ (sym c.in-Some.ensures.lookup.0))
    c.in-Some.ensures.lookup.1

pub returns-then-stored-ne0-clause-equal : goal.returns-then-stored-ne0-clause-equal
returns-then-stored-ne0-clause-equal c = λ is.
    let found = found_of (goal.at.returns-then-stored-ne0-clause-equal c).In-Some in
    let read =
    read_at c.args.self.now.states.items c.args.index c.in-Some.stored.now c.args.state.now 0
    found is in
    absurd (c.if-stored-ne0.true (ap (λ (x : StoredState). x.number) read))

pub returns-then-not-covers-clause-equal : goal.returns-then-not-covers-clause-equal
returns-then-not-covers-clause-equal c = λ is.
    let found = found_of (goal.at.returns-then-not-covers-clause-equal c).In-Some in
    let read =
    read_at c.args.self.now.states.items c.args.index c.in-Some.stored.now c.args.state.now 0
    found is in
    absurd (cc (
      c.covers.ensures.equal
          (c.restore.ensures ∙ ap (λ (x : StoredState). x.state) read),
      c.if-not-covers.true,
    ))

pub returns-clause-equal : goal.returns-clause-equal
returns-clause-equal c = λ is.
    let found = found_of (goal.at.returns-clause-equal c).In-Some in
    let read =
    read_at c.args.self.now.states.items c.args.index c.in-Some.stored.now c.args.state.now 0
    found is in
    c.covers-2.ensures.equal (sym (c.restore.ensures ∙ ap (λ (x : StoredState). x.state) read))

pub returns-clause-repeated : goal.returns-clause-repeated
returns-clause-repeated c = λ yes.
    let s = c.args.state.now in
    let x = c.in-Some.stored.now in
    record {
      index = c.args.index;
      other = x.state;
      stored = found_of (goal.at.returns-clause-repeated c).In-Some
          ∙ ap (λ (n : ℕ). Some (record { state = x.state; number = n })) c.if-stored-ne0.false;
      same_slot = subst (λ (o : State). o.slot ≡ s.slot) c.restore.ensures
          (c.covers.ensures.slot c.if-not-covers.false);
      covers = λ p. subst (λ o. Covers p o s) c.restore.ensures
          (c.covers.ensures.yes c.if-not-covers.false p);
      covered = λ p. subst (λ o. Covers p s o) c.restore.ensures (c.covers-2.ensures.yes yes p);
    }
