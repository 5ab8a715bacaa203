-- A store, as contracts of all maps see it.
use Rattle.std.specs.Prelude.{◌≡◌, ℕ, ◌≤◌, All, List, length, map, Option, Some, None, slice_get}
use Rattle.isa_model.specs.declared.map_defs.MapDef.{MapDef}
use Rattle.isa_model.specs.declared.map_defs.MapType.TheVariants.{Hash}
use Rattle.map_indexes.specs.declared.index.Index.{Ghosts}
use Rattle.maps.specs.declared.either.EitherIndex.{EitherIndex}
use Rattle.maps.specs.declared.store.Store.{Store}
use Rattle.map_indexes.specs.PlaceKeys.{Places}
use Rattle.isa_model.specs.Code.MapRows.{IsRow}
use Rattle.maps.specs.Maps.{MapState}
use Rattle.maps.specs.ReportOrder.{IsList}

-- by the places of its index's keys
abbrev pub state_by : {I : Type 0} {g : Ghosts I} → (I → Places) → Store I g → MapState
state_by places s = record { row = s.row; places = places s.index; block = s.values.items }

-- a list with this room has room for the places of its keys, if it is a hash map
pub record IsListed {I : Type 0} {g : Ghosts I} (room : ℕ) (s : Store I g) : Type 0 where
  pub is_row : IsRow s.row
  pub listed : s.row.kind ≡ Hash → s.row.entries ≤ room

-- a list with less room has no room for the places of each hash map of these rows
abbrev pub IsLeastHashRoom : ℕ → List MapDef → Type 0
IsLeastHashRoom room rows = (n : ℕ) → All (λ row. row.kind ≡ Hash → row.entries ≤ n) rows → room ≤ n

-- the list of places and that of these stores have room for what they need, and for no more
pub record HaveRoom {I : Type 0} {g : Ghosts I} (places all : ℕ)
    (stores : List (Store I g)) : Type 0 where
  pub listed : All (IsListed places) stores
  pub least : IsLeastHashRoom places (map (λ s. s.row) stores)
  pub exact : all ≡ length stores

-- the list has the places of the keys of the map that it is said to be of, in the order of the keys
abbrev pub IsListOf : {g : Ghosts EitherIndex} → Option ℕ → List ℕ → List (Store EitherIndex g)
    → Type 0
IsListOf None list stores = Unit {0}
IsListOf {g} (Some at) list stores =
    (s : Store EitherIndex g) → slice_get stores at ≡ Some s → IsList s.index list

-- both: the room, and the list that is kept
pub record HaveRoomAndList {g : Ghosts EitherIndex} (listed : Option ℕ) (list : List ℕ)
    (places all : ℕ) (stores : List (Store EitherIndex g)) : Type 0 where
  pub room : HaveRoom places all stores
  pub kept : IsListOf listed list stores
