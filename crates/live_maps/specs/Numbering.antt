-- The numbering at the start of a run: values have the serials 0, 1, .., map by map, and in each by
-- the bytes of their keys.
use Rattle.std.proofs.Common.{◌≡◌, ℕ, ◌+◌, ◌^◌, ◌<◌, ◌≤◌, List, take, length, Some}
use Rattle.std.specs.Prelude.{slice_index_or}
use Rattle.std.specs.FinMap.{values}
use Rattle.isa_model.specs.Running.Runs.{count_map_values}
use Rattle.maps.specs.Maps.{MapState, map_at, contents_of}
use Rattle.live_maps.specs.Live.{Serials, serial_in, serials_at}

abbrev pub place_in : List ℕ → ℕ → ℕ
place_in places i = slice_index_or places i 0

-- no place outside a list has a serial
abbrev pub OnlyThere : List ℕ → Serials → Type 0
OnlyThere places serials = (p k : ℕ) → serial_in serials p ≡ Some k
    → (i : ℕ) × (i < length places) × (place_in places i ≡ p)

-- the first places of a list have the serials n, n + 1, .., and no place outside the list
-- has one
pub record NumbersFirst (n : ℕ) (places : List ℕ) (count : ℕ) (serials : Serials) : Type 0 where
  pub there : (i : ℕ) → i < count → serial_in serials (place_in places i) ≡ Some (n + i)
  pub only : OnlyThere places serials

-- all places of a list have these serials, and no place outside the list has one
abbrev pub NumbersAll : ℕ → List ℕ → Serials → Type 0
NumbersAll n places serials = NumbersFirst n places (length places) serials

-- no place is twice in a list
abbrev pub AreDistinct : List ℕ → Type 0
AreDistinct places =
    (i j : ℕ) → i < length places → j < length places → place_in places i ≡ place_in places j
    → i ≡ j

-- ---- the values of all maps

-- how many values the first maps have
abbrev pub count_before : List MapState → ℕ → ℕ
count_before maps m = count_map_values (contents_of (take m maps))

-- all maps are numbered, one after another
pub record AreNumbered (maps : List MapState) (all : List Serials) : Type 0 where
  pub long : length all ≡ length maps
  pub rooms : (m : ℕ) → m < length maps → length (serials_at all m) ≡ (map_at maps m).row.entries
  pub numbers : (m : ℕ) → m < length maps
      → NumbersAll (count_before maps m) (values (map_at maps m).places) (serials_at all m)

-- all maps are numbered from 0 on, and this is the count of their values
pub record IsNumbered (count : ℕ) (maps : List MapState) (all : List Serials) : Type 0 where
  pub are : AreNumbered maps all
  pub counted : count ≡ count_map_values (contents_of maps)
  pub few : count ≤ 2 ^ 32
