-- What the finite map from an array's keys to their places has at a key.
use Rattle.std.proofs.Common.{◌≡◌, ℕ, zero, suc, ◌+◌, ◌<◌, ◌≤◌, List, Some, true, false, cond, refl, sym, ap, subst, ◌∙◌, arith}
use Rattle.std.specs.Prelude.{is_some}
use Rattle.std.specs.Cmp.Lexicographic.{nat_list_cmp_total}
use Rattle.std.specs.FinMap.{get, len, get-empty, get-insert, len-empty, len-insert}
use Rattle.byteorder.specs.Endian.{little_bytes}
use Rattle.isa_model.specs.Machine.MapContents.{key_order, is_key}
use Rattle.map_indexes.specs.ArrayPlaces.{array_places}
use Rattle.map_indexes.specs.PlaceKeyLaws.{is_key-equal}

-- the place that is found is an index below n, and its bytes are the key
pub got_index : (n : ℕ) (k : List ℕ) (p : ℕ) → get (array_places n) k ≡ Some p
    → (p < n) × (k ≡ little_bytes 4 p)
got_index zero k p e = let h = get-empty {X = ℕ} key_order k in absurd (cc)
got_index (suc n) k p e =
    elim (is_key k (little_bytes 4 n)) as (λ b. is_key k (little_bytes 4 n) ≡ b
    → cond b (Some n) (get (array_places n) k) ≡ Some p → (p < suc n) × (k ≡ little_bytes 4 p)) [
      | true ↦
          λ t f. let same : n ≡ p =
          cc in (omega arith, is_key-equal k (little_bytes 4 n) t ∙ ap (little_bytes 4) same)
      | false ↦ λ t f. let h = got_index n k p f in let l = h.0 in (omega arith, h.1)
    ] refl (sym (get-insert nat_list_cmp_total (array_places n) (little_bytes 4 n) n k) ∙ e)

pub array_in_range : (n : ℕ) (k : List ℕ) (p : ℕ) → get (array_places n) k ≡ Some p → p < n
array_in_range n k p e = (got_index n k p e).0

pub array_apart : (n : ℕ) (j k : List ℕ) (p : ℕ) → get (array_places n) j ≡ Some p
    → get (array_places n) k ≡ Some p → j ≡ k
array_apart n j k p e f = (got_index n j p e).1 ∙ sym ((got_index n k p f).1)

pub array_few : (n : ℕ) → len (array_places n) ≤ n
array_few zero = let h = len-empty key_order ℕ in omega arith
array_few (suc n) =
    let h = array_few n in
    let e = len-insert nat_list_cmp_total (array_places n) (little_bytes 4 n) n in
    subst (λ (x : ℕ). x ≤ suc n) (sym e)
    (elim (is_some (get (array_places n) (little_bytes 4 n))) as (λ b. cond b (len (array_places n))
    (len (array_places n) + 1) ≤ suc n) [
      | true ↦ omega arith
      | false ↦ omega arith
    ])
