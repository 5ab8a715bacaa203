use Rattle.maps.proofs.Common.{ℕ, ◌<◌, List, length, subst, slice_index_or, All, All-map, MapState, IsMap}
use Rattle.maps.proofs.AllMaps.{EitherStore, state, IsMap-state}
use Rattle.maps.proofs.all.Maps.count.Goals as goal

pub returns-clause-maps : goal.returns-clause-maps
returns-clause-maps c =
    let stores = c.self.inside.stores.all.items in
    subst (λ (ms : List MapState). All IsMap ms) c.self.view_is
    (All-map IsMap state stores
    (λ (k : ℕ) (d : EitherStore) (l : k < length stores). IsMap-state
    (slice_index_or stores k d) (c.self.invariant.room.listed k d l).is_row
    (c.count.ensures.bytes k d l)))
