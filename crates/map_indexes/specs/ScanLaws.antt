-- Laws of places that are scanned: a place that is found is there, and no other key has it.
use Rattle.std.proofs.Common.{◌≡◌, ℕ, zero, suc, ◌<◌, ◌≤◌, List, [], ◌∷◌, Some, None, length, arith}
use Rattle.std.specs.FinMap.{get, len}
use Rattle.map_indexes.specs.PlaceKeys.{PlaceKeys, key_in, places, IsScan, key_count}
use Rattle.map_indexes.specs.PlaceKeyLaws.{got}

-- a place with a key is one of the places
pub key_inside : (keys : PlaceKeys) (p : ℕ) (k : List ℕ) → key_in keys p ≡ Some k
    → p < length keys
key_inside [] p k e = absurd (cc)
key_inside (x ∷ keys) zero k e = omega arith
key_inside (x ∷ keys) (suc p) k e = let h = key_inside keys p k e in omega arith

pub scan_in_range : (keys : PlaceKeys) (k : List ℕ) (p : ℕ) → get (places keys) k ≡ Some p
    → p < length keys
scan_in_range keys k p e = key_inside keys p k (got keys k p e)

pub scan_apart : (keys : PlaceKeys) (j k : List ℕ) (p : ℕ) → get (places keys) j ≡ Some p
    → get (places keys) k ≡ Some p → j ≡ k
scan_apart keys j k p e f = let a = got keys j p e in let b = got keys k p f in cc

key_count-most : (keys : PlaceKeys) → key_count keys ≤ length keys
key_count-most [] = omega arith
key_count-most (None ∷ keys) = let h = key_count-most keys in omega arith
key_count-most (Some k ∷ keys) = let h = key_count-most keys in omega arith

pub scan_few : (keys : PlaceKeys) (count : ℕ) → IsScan keys count
    → len (places keys) ≤ length keys
scan_few keys count is =
    let a = is.counted in
    let b = is.mapped in
    let c = key_count-most keys in
    omega arith
