-- The keys of places are bytes and have the map's key size, also after one is put or cleared, and
-- in an array.
use Rattle.map_indexes.proofs.Common.{◌≡◌, ℕ, ◌<◌, List, length, Some, None, slice_set, replicate, sym, ap, subst, ◌∙◌, inl, inr, get, little_bytes, length-bytes_low_first, array_places, got_index, PlaceKeys, key_in, places, IsKey, AreKeys, got}
use Rattle.isa_model.proofs.StartingContents.{AreBytes-bytes_low_first}
use Rattle.map_indexes.proofs.PlaceKeysLaws.{key_in-none, same_or_not, set_here, set_else}

pub AreKeys-none : (size n : ℕ) → AreKeys size (replicate n None)
AreKeys-none size n p key e = let f = key_in-none n p in absurd (cc)

module _ (size : ℕ) (keys : PlaceKeys) (are : AreKeys size keys) (p : ℕ)
    (inside : p < length keys) where
  pub AreKeys-put : (key : List ℕ) → IsKey size key → AreKeys size (slice_set keys p (Some key))
  AreKeys-put key is j k e =
      elim (same_or_not j p) [
        | inl here ↦
            let f : Some key ≡ Some k =
            sym (set_here keys p (Some key) inside)
            ∙ ap (key_in (slice_set keys p (Some key))) (sym here) ∙ e in
            let same : key ≡ k = cc in
            subst (IsKey size) same is
        | inr other ↦ are j k (sym (set_else keys p j (Some key) other) ∙ e)
      ]

  pub AreKeys-cleared : AreKeys size (slice_set keys p None)
  AreKeys-cleared j k e =
      elim (same_or_not j p) [
        | inl here ↦
            let f : None ≡ Some k =
            sym (set_here keys p None inside) ∙ ap (key_in (slice_set keys p None)) (sym here)
            ∙ e in
            absurd (cc)
        | inr other ↦ are j k (sym (set_else keys p j None other) ∙ e)
      ]

-- a key that is found among places is bytes of that size
pub key_found : (size : ℕ) (keys : PlaceKeys) → AreKeys size keys → (k : List ℕ) (p : ℕ)
    → get (places keys) k ≡ Some p → IsKey size k
key_found size keys are k p e = are p k (got keys k p e)

IsKey-index : (i : ℕ) → IsKey 4 (little_bytes 4 i)
IsKey-index i =
    record { long = length-bytes_low_first 0 4 i; bytes = AreBytes-bytes_low_first 0 4 i }

-- a key that an array has is four bytes
pub index_found : (n : ℕ) (k : List ℕ) (p : ℕ) → get (array_places n) k ≡ Some p → IsKey 4 k
index_found n k p e = subst (IsKey 4) (sym ((got_index n k p e).1)) (IsKey-index p)
