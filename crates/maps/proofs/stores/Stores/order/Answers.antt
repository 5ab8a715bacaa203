use Rattle.maps.proofs.Common.{◌≡◌, ℕ, ◌<◌, List, Option, Some, map, length, refl, sym, ap, ◌∙◌, subst, arith, slice_index_or, MapState, ordered_in, IsListOf, length-map}
use Rattle.maps.proofs.AllMaps.{EitherStore, state, map_at-state}
use Rattle.maps.proofs.stores.Stores.order.Goals as goal

pub returns : goal.returns
returns c =
    let stores = c.args.self.now.all.items in
    let at = c.args.at in
    let made = c.list_places.new.self in
    let x : EitherStore = c.index.result.now in
    let same : made.all.items ≡ stores = ap (λ v. v.items) c.list_places.ensures.all in
    let long = length-map stores state in
    let low : at < length (map state stores) = let l = c.requires.at in omega arith in
    let here = map_at-state (map state stores) stores refl at low x
    (c.index.ensures ∙ ap (λ (all : List EitherStore). slice_index_or all at x) same) in
    let kept = subst (λ (all : List EitherStore). IsListOf (Some at) made.list.items all) (sym same)
    c.list_places.ensures.list in (
      (
        refl,
        λ _. tt,
        (
          c.list_places.ensures.all,
          c.list_places.ensures.capacity,
          subst (λ (o : Option ℕ). IsListOf o made.list.items made.all.items)
              (sym c.list_places.ensures.listed) kept,
        ),
      ),
      record {
        pairs = c.new.ensures ∙ ap (λ (m : MapState). ordered_in m) (sym here);
        stay = tt;
      },
    )
