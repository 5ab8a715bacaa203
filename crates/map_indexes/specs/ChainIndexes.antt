-- How the keys of places, the free places and the links of chains fit together; and which link has
-- a key.
use Rattle.std.proofs.Common.{◌≡◌, ℕ, ◌-◌, ◌<◌, ◌≤◌, List, length, Option, Some, None}
use Rattle.std.specs.Option.{option_map}
use Rattle.std.specs.Prelude.{slice_index_or}
use Rattle.map_indexes.specs.declared.chains.Link.{Link}
use Rattle.map_indexes.specs.Hashing.{chain_of}
use Rattle.map_indexes.specs.PlaceKeys.{PlaceKeys, key_in, IsScan}

abbrev pub free_at : List ℕ → ℕ → ℕ
free_at free i = slice_index_or free i 0

-- each key's place has one link, in the key's chain, and the free places are all others, each once;
-- `chains` is the count of the chains, and `chain_places` has the chain and the place of each link
pub record IsChainIndex (keys : PlaceKeys) (free : List ℕ) (chains : ℕ)
    (chain_places : ℕ → Option (ℕ × ℕ)) : Type 0 where
  pub few : length free ≤ length keys
  pub scan : IsScan keys (length keys - length free)
  pub unused : (i : ℕ) → i < length free
      → (free_at free i < length keys) × (key_in keys (free_at free i) ≡ None)
  pub once : (i j : ℕ) → i < length free → j < length free → free_at free i ≡ free_at free j → i ≡ j
  pub sound : (k chain p : ℕ) → chain_places k ≡ Some (chain, p)
      → option_map (λ key. chain_of key chains) (key_in keys p) ≡ Some chain
  pub complete : (p : ℕ) (key : List ℕ) → key_in keys p ≡ Some key
      → ∥ ((k : ℕ) × (chain_places k ≡ Some (chain_of key chains, p))) ∥₁
  pub apart : (j k b c p : ℕ) → chain_places j ≡ Some (b, p) → chain_places k ≡ Some (c, p) → j ≡ k

-- ---- look-ups

-- the link's place has the key
pub record HasKey (keys : PlaceKeys) (links : ℕ
    → Option Link) (key : List ℕ) (at : ℕ) : Type 0 where
  pub link : Link
  pub there : links at ≡ Some link
  pub has : key_in keys link.place ≡ Some key
