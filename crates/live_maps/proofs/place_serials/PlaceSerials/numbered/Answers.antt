use Rattle.live_maps.proofs.Common.{◌≡◌, ◌+◌, ◌-◌, ℕ, List, Some, sym, ap, subst, ◌∙◌, arith, slice_get, Since, Same, PlaceOrder, since_in, start_serial, AreDistinct}
use Rattle.live_maps.proofs.PlaceOrderLaws.{serial_seen, start-at, start-found}
use Rattle.live_maps.proofs.place_serials.PlaceSerials.numbered.Goals as goal

pub returns-in-Same-clause-found : goal.returns-in-Same-clause-found
returns-in-Same-clause-found c =
    let i = c.self.inside in
    let p = c.at-place.result in
    let k : ℕ = c.args.serial - i.first in
    let most = c.if-serial-self.false in
    let back : i.first + k ≡ c.args.serial = omega arith in
    let distinct = subst (λ (j : PlaceOrder). AreDistinct j.order) (sym c.self.view_is)
    c.requires.distinct in
    let inside = c.requires.inside k p
    (ap (λ (j : PlaceOrder). slice_get j.order k) (sym c.self.view_is) ∙ c.at-place.ensures) in
    sym (serial_seen c.args.self.now p Same (Some c.args.serial) inside
    (c.in-Same.ensures ∙ ap (λ (l : List Since). since_in l p) c.as_slice.ensures.value
    ∙ ap (λ (j : PlaceOrder). since_in j.since p) c.self.view_is)
    (ap (λ (j : PlaceOrder). start_serial j.first j.order p) (sym c.self.view_is)
    ∙ start-at i.first p k i.ranks.places distinct c.at-place.ensures ∙ ap Some back))

pub returns-in_default : goal.returns-in_default
returns-in_default c = record {
  found = tt;
  none = λ p same e.
      let i = c.self.inside in
      let s = start-found i.first p c.args.serial i.ranks.places
      (ap (λ (j : PlaceOrder). start_serial j.first j.order p) c.self.view_is ∙ e) in
      let sum = s.2 in
      let at : c.args.serial - i.first ≡ s.0 = omega arith in
      let one : Some c.at-place.result ≡ Some p =
      sym c.at-place.ensures ∙ ap (slice_get i.ranks.places) at ∙ s.1 in
      let this : c.at-place.result ≡ p = cc in
      c.in_default.not-Same (c.since_at.ensures
      ∙ ap (λ (l : List Since). since_in l c.at-place.result) c.as_slice.ensures.value
      ∙ ap (since_in i.since.items) this ∙ ap (λ (j : PlaceOrder). since_in j.since p) c.self.view_is
      ∙ same);
}
