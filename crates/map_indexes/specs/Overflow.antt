-- The list of the places whose chains were full, in the order of their keys.
use Rattle.std.proofs.Common.{◌≡◌, ℕ, ◌<◌, List, length, Option, None, Bool, true, if◌then◌else◌}
use Rattle.std.specs.Option.{option_map, option_or}
use Rattle.std.specs.List.{list_any}
use Rattle.std.specs.Prelude.{is_some, nat_eq, slice_index_or}
use Rattle.std.specs.declared.cmp.Ordering.TheVariants.{Less}
use Rattle.isa_model.specs.Machine.MapContents.{key_order}
use Rattle.map_indexes.specs.declared.chains.Link.{Link}
use Rattle.map_indexes.specs.Chains.{chain_place}
use Rattle.map_indexes.specs.Hashing.{chain_of}
use Rattle.map_indexes.specs.KeyOrder.{key_or_none}
use Rattle.map_indexes.specs.PlaceKeys.{PlaceKeys, key_in}

abbrev pub place_at : List ℕ → ℕ → ℕ
place_at listed i = slice_index_or listed i 0

-- the place is in the list
abbrev pub is_listed : List ℕ → ℕ → Bool
is_listed listed p = list_any (nat_eq p) listed

-- each place in the list has a key, and the keys rise
pub record AreRising (keys : PlaceKeys) (listed : List ℕ) : Type 0 where
  pub used : (p : ℕ) → is_listed listed p ≡ true → is_some (key_in keys p) ≡ true
  pub rising : (i j : ℕ) → i < j → j < length listed
      → key_order (key_or_none keys (place_at listed i)) (key_or_none keys (place_at listed j))
      ≡ Less

-- no place in the list has a link
abbrev pub AreUnlinked : (ℕ → Option Link) → List ℕ → Type 0
AreUnlinked links listed = (p : ℕ) → is_listed listed p ≡ true → links p ≡ None

-- ---- where keys are found

-- the chain and the place of the key at a place in the list
abbrev pub listed_place : PlaceKeys → ℕ → List ℕ → ℕ → Option (ℕ × ℕ)
listed_place keys chains listed p =
    if is_listed listed p then option_map (λ key. (chain_of key chains, p)) (key_in keys p)
    else None

-- the chain and the place of each link, and of each place in the list
abbrev pub found_places : PlaceKeys → ℕ → List ℕ → (ℕ → Option Link) → ℕ → Option (ℕ × ℕ)
found_places keys chains listed links k =
    option_or (chain_place (links k)) (listed_place keys chains listed k)
