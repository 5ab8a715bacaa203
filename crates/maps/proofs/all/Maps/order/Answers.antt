use Rattle.maps.proofs.Common.{map, refl, ap, ◌∙◌, map_at, ordered_in}
use Rattle.maps.proofs.AllMaps.{state}
use Rattle.maps.proofs.all.Maps.order.Goals as goal

pub returns : goal.returns
returns c = (
  (refl, λ _. tt, ap (λ v. map state v.items) c.order.follows.holds-at-none.0 ∙ c.self.view_is),
  record {
    pairs = c.order.ensures.pairs
        ∙ (λ i. ordered_in (map_at (c.self.view_is i) c.args.map));
    stay = tt;
  },
)
