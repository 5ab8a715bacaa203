use Rattle.listeners.proofs.Common.{◌≡◌, ℕ, List, [], rules, subst, sym, State, Program, IsProgram-IsImage, Refusal, Precision, IsRefused, AcceptsAll, AcceptsAll-refused, Explains, HasFollowed, EndsAsPrecise}
use Rattle.listeners.specs.declared.explaining.Follower.{Follower}
use Rattle.listeners.proofs.Following.{explains_by}
use Rattle.listeners.proofs.Stops.{refused_with, if_some, for_some}
use Rattle.listeners.proofs.explaining.searched_for.Goals as goal

pub search_with-searched-requires : goal.search_with-searched-requires
search_with-searched-requires c = record {
  untold =
      subst
      (λ (f : Follower). (how : Precision) → (last : State)
      × HasFollowed how f.image.now f.slots.items f.slot f.turns c.args.image.now [] last)
      (sym c.deref_mut-follower.ensures.value) c.in-Ok.ensures.nothing;
}

pub returns-in-Some-clause-refused : goal.returns-in-Some-clause-refused
returns-in-Some-clause-refused c =
    let p = c.args.image.now in
    let searched = c.search_with-searched in
    let e = c.in-Some.found in
    let at = c.in-Some.at in
    let refused = refused_with searched.result.result e at (IsRefused p) c.in-Some.ensures
    searched.ensures.refused in
    let is : e ≡ c.args.refusal = search rules in
    let here : at ≡ c.args.slot = search rules in
    for_some c.explanation.result (IsRefused p c.args.refusal c.args.slot)
    (subst (λ (n : ℕ). IsRefused p c.args.refusal n) here
    (subst (λ (r : Refusal). IsRefused p r at) is refused))

pub returns-in-Some-clause-accepts : goal.returns-in-Some-clause-accepts
returns-in-Some-clause-accepts c =
    let p = c.args.image.now in
    let searched = c.search_with-searched in
    let e = c.in-Some.found in
    let at = c.in-Some.at in
    let refused = refused_with searched.result.result e at (IsRefused p) c.in-Some.ensures
    searched.ensures.refused in
    let is : e ≡ c.args.refusal = search rules in
    for_some c.explanation.result (AcceptsAll p c.args.refusal)
    (subst (λ (r : Refusal). AcceptsAll p r) is
    (AcceptsAll-refused p e at (IsProgram-IsImage p c.recall.ensures) refused))

pub returns-in-Some-clause-explains : goal.returns-in-Some-clause-explains
returns-in-Some-clause-explains c =
    let p = c.args.image.now in
    let searched = c.search_with-searched in
    let f = searched.new.listener in
    let tale : Precision → Program → List State → State → Type 0 =
    λ how r path last. HasFollowed how f.image.now f.slots.items f.slot f.turns r path last in
    let e = c.in-Some.found in
    let at = c.in-Some.at in
    let refused = refused_with searched.result.result e at (IsRefused p) c.in-Some.ensures
    searched.ensures.refused in
    let ends = refused_with searched.result.result e at
    (EndsAsPrecise p (λ how. tale how p)) c.in-Some.ensures
    searched.ensures.follows in
    let is : e ≡ c.args.refusal = search rules in
    let here : at ≡ c.args.slot = search rules in
    if_some c.explanation.result _ (λ x. Explains p c.args.refusal c.args.slot x.value)
    (λ x shown. explains_by p tale e c.args.refusal at c.args.slot x.value
    is here (c.is_found_by_search.ensures (search rules)) refused ends shown)
    c.explanation.ensures
