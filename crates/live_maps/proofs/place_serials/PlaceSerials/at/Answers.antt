use Rattle.live_maps.proofs.Common.{◌≡◌, ℕ, List, Some, None, refl, sym, ap, subst, ◌∙◌, arith, slice_get_within, Since, Same, Gone, Given, New, PlaceOrder, since_in, start_serial, AreDistinct}
use Rattle.live_maps.proofs.PlaceOrderLaws.{serial_seen, start-at, start-out}
use Rattle.live_maps.proofs.place_serials.PlaceSerials.at.Goals as goal

-- what became of the place, as contracts see it
seen : (now k : PlaceOrder) (s : Since) (p : ℕ) (xs : List Since) → k ≡ now → xs ≡ k.since
    → s ≡ since_in xs p → s ≡ since_in now.since p
seen now k s p xs view same e =
    e ∙ ap (λ (l : List Since). since_in l p) same ∙ ap (λ (j : PlaceOrder). since_in j.since p) view

pub overflow_add-result : goal.overflow_add-result
overflow_add-result c =
    let i = c.self.inside in
    let few = c.self.invariant.1 in
    let inside = slice_get_within i.ranks.places c.in-Some.rank c.args.place
    c.in-Some.ensures.found in
    let len = c.len-few.ensures.len in
    let most = c.len-few.ensures.few in
    let small = c.len-few.ensures.small in
    omega arith

pub returns-in-Some : goal.returns-in-Some
returns-in-Some c =
    let i = c.self.inside in
    let distinct = subst (λ (k : PlaceOrder). AreDistinct k.order) (sym c.self.view_is)
    c.requires.distinct in
    serial_seen c.args.self.now c.args.place Same _ c.requires.inside
    (seen c.args.self.now _ Same c.args.place _ c.self.view_is c.as_slice.ensures.value
    c.in-Same.ensures)
    (ap (λ (k : PlaceOrder). start_serial k.first k.order c.args.place) (sym c.self.view_is)
    ∙ start-at i.first c.args.place c.in-Some.rank i.ranks.places distinct
    c.in-Some.ensures.found)

pub returns-in-None : goal.returns-in-None
returns-in-None c =
    let i = c.self.inside in
    serial_seen c.args.self.now c.args.place Same None c.requires.inside
    (seen c.args.self.now _ Same c.args.place _ c.self.view_is c.as_slice.ensures.value
    c.in-Same.ensures)
    (ap (λ (k : PlaceOrder). start_serial k.first k.order c.args.place) (sym c.self.view_is)
    ∙ start-out i.first c.args.place i.ranks.places c.in-None.ensures.none)

pub returns-in-Gone : goal.returns-in-Gone
returns-in-Gone c =
    serial_seen c.args.self.now c.args.place Gone None c.requires.inside
    (seen c.args.self.now _ Gone c.args.place _ c.self.view_is c.as_slice.ensures.value
    c.in-Gone.ensures) refl

pub returns-in-Given : goal.returns-in-Given
returns-in-Given c =
    serial_seen c.args.self.now c.args.place (Given c.in-Given.serial) (Some c.in-Given.serial)
    c.requires.inside
    (seen c.args.self.now _ (Given c.in-Given.serial) c.args.place _ c.self.view_is
    c.as_slice.ensures.value c.in-Given.ensures) refl

pub returns-in-New : goal.returns-in-New
returns-in-New c =
    serial_seen c.args.self.now c.args.place (New c.in-New.serial) (Some c.in-New.serial)
    c.requires.inside
    (seen c.args.self.now _ (New c.in-New.serial) c.args.place _ c.self.view_is
    c.as_slice.ensures.value c.in-New.ensures) refl
