-- Which place the finite map from keys to places has for a key.
use Rattle.std.proofs.Common.{◌≡◌, ℕ, suc, ◌+◌, List, [], ◌∷◌, Some, None, true, false, cond, refl, sym, ap, ◌∙◌, arith}
use Rattle.std.specs.Ordering.{is_eq}
use Rattle.std.specs.declared.cmp.Ordering.{Ordering}
use Rattle.std.specs.declared.cmp.Ordering.TheVariants.{Less, Equal, Greater}
use Rattle.std.specs.Cmp.Lexicographic.{nat_list_cmp_total}
use Rattle.std.specs.FinMap.{find, get, get-from_entries, slice_cmp-IsAntisymmetric, nat_cmp-IsAntisymmetric}
use Rattle.isa_model.specs.Machine.MapContents.{key_order, is_key}
use Rattle.map_indexes.specs.PlaceKeys.{PlaceKeys, pairs_from, places, key_in}

is_equal : (r : Ordering) → is_eq r ≡ true → r ≡ Equal
is_equal Less e = absurd (cc)
is_equal Equal e = refl
is_equal Greater e = absurd (cc)

pub is_key-equal : (q k : List ℕ) → is_key q k ≡ true → q ≡ k
is_key-equal q k e =
    slice_cmp-IsAntisymmetric nat_cmp-IsAntisymmetric q k (is_equal (key_order q k) e)

-- what is found is a place with this key
pub found_at : (keys : PlaceKeys) (at : ℕ) (k : List ℕ) (p : ℕ)
    → find key_order k (pairs_from at keys) ≡ Some p
    → (i : ℕ) × (p ≡ at + i) × (key_in keys i ≡ Some k)
found_at [] at k p e = absurd (cc)
found_at (None ∷ keys) at k p e =
    let r = found_at keys (at + 1) k p e in let q = r.1 in (suc r.0, omega arith, r.2)
found_at (Some q ∷ keys) at k p e =
    elim (is_key k q) as (λ b. is_key k q ≡ b
    → cond b (Some at) (find key_order k (pairs_from (at + 1) keys)) ≡ Some p
    → (i : ℕ) × (p ≡ at + i) × (key_in (Some q ∷ keys) i ≡ Some k)) [
      | true ↦ λ t f. let h : at ≡ p = cc in (0, omega arith, ap Some (sym (is_key-equal k q t)))
      | false ↦
          λ t f. let r = found_at keys (at + 1) k p f in let g = r.1 in (suc r.0, omega arith, r.2)
    ] refl e

pub got : (keys : PlaceKeys) (k : List ℕ) (p : ℕ) → get (places keys) k ≡ Some p
    → key_in keys p ≡ Some k
got keys k p e =
    let r =
    found_at keys 0 k p (sym (get-from_entries nat_list_cmp_total (pairs_from 0 keys) k) ∙ e) in
    let same : p ≡ r.0 = let q = r.1 in omega arith in ap (key_in keys) same ∙ r.2
