use Rattle.maps.proofs.Common.{◌≡◌, ℕ, ◌+◌, ◌-◌, ◌*◌, take, drop, refl, ap, ◌∙◌, arith, with_values-same}
use Rattle.maps.proofs.store.StoreMapStore.value_mut.Goals as goal

pub returns : goal.returns
returns g c =
    let s = c.args.self.now in
    let start : ℕ = c.args.place * s.row.value_size in
    let size : start + s.row.value_size - start ≡ s.row.value_size = omega arith in
    let value =
    c.slice_mut.ensures.value ∙ ap (λ (n : ℕ). take n (drop start s.values.items)) size in
    ((refl, λ w. with_values-same s _ _ _ _ _ _), record { lends = tt; value = value })
