use Rattle.explorer.proofs.Common.{◌≡◌, ◌∙◌, ℕ, List, Option, Some, ap, sym, subst, set, get_or, refl, get_or_from_slice_get, StoredState, GetsNumber}
use Rattle.explorer.proofs.stored_states.StoredStates.finish.Goals as goal

-- the stored state with this index, which was read as x, has its number now
gets_number : (old : List StoredState) (stored : Option ℕ) (k n : ℕ) (x : StoredState)
    → stored ≡ Some k → x ≡ get_or old k x
    → GetsNumber old stored n (set old k (record { state = x.state; number = n }))
gets_number old stored k n x is read =
    let new = set old k (record { state = x.state; number = n }) in
    subst (λ (o : Option ℕ). GetsNumber old o n new) (sym is)
    (λ s at.
    let was : StoredState = record { state = s; number = at.0 } in
    let same : x ≡ was = read ∙ get_or_from_slice_get old k was x at.1 in
    ap (λ (y : StoredState). set old k (record { state = y.state; number = n })) same)

pub returns-in_default : goal.returns-in_default
returns-in_default c = rw c.in_default.is refl

pub returns-in-Some-get_mut : goal.returns-in-Some-get_mut
returns-in-Some-get_mut c =
    gets_number c.args.self.now.states.items c.args.stored c.in-Some.index c.args.number
    c.index_mut-state.result.now c.in-Some.is c.index_mut-state.ensures.value

pub returns-in_default-get_mut : goal.returns-in_default-get_mut
returns-in_default-get_mut c =
    gets_number c.args.self.now.states.items c.args.stored c.in-Some.index c.args.number
    c.index_mut-state.result.now c.in-Some.is c.index_mut-state.ensures.value
