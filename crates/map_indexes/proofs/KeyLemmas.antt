-- The places of a block of keys, and a block that was lent.
use Rattle.map_indexes.proofs.Common.{◌≡◌, ℕ, List, ◌++◌, take, drop, Bool, length, sym, ap, ◌∙◌, take_at, KeysByPlace, keys_by_place}
use Rattle.map_indexes.proofs.KeyLaws.{length-keys_by_place}

-- there are as many places as the block has
pub block_places : (size : ℕ) (block : List ℕ) (used : List Bool) (t : KeysByPlace)
    → record { size = size; by_place = keys_by_place size block 0 used } ≡ t
    → length t.by_place ≡ length used
block_places size block used t is =
    sym (ap (λ (t : KeysByPlace). length t.by_place) is) ∙ length-keys_by_place size block 0 used

-- after a block was lent whole, it is what came back
pub lent_whole : (back block : List ℕ) (n : ℕ) → length back ≡ n
    → take n (back ++ drop (length back) block) ≡ back
lent_whole back block n e = take_at back (drop (length back) block) n e
