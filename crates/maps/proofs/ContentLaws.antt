-- Laws of a map's content after a value is written, a key is added, or a key is removed.
use Rattle.maps.proofs.Common.{◌≡◌, ℕ, ◌*◌, ◌<◌, List, length, Option, Some, None, Bool, true, false, cond, refl, sym, ap, subst, ◌∙◌, is_some, not, T, option_map, nat_list_cmp_total, KeyValues, key_order, is_key, at_key, has_key, with_key, without_key, block_row, with_block_row, block_row-written, block_row-other, Places, TakesPlace, is_key-itself, is_key-equal, content}
use Rattle.std.specs.Cmp.{eq_by_cmp_equiv}
use Rattle.std.specs.FinMap.{get, insert, remove, len, entries, entries_sorted, get-entries, len-entries, get-insert, get-remove, slice_cmp-IsAntisymmetric, nat_cmp-IsAntisymmetric}
use Rattle.std.specs.FinMap.Entries.{find, is_sorted, find-put, find-where_key, is_sorted-put, is_sorted-where_key, same_entries}
use Rattle.maps.specs.ContentLaws.{find-changed, is_sorted-changed, length-changed}

-- two contents in order that have the same at each key are equal
pub same_contents : {X : Type 0} (es fs : List (List ℕ × X)) → T (is_sorted key_order es)
    → T (is_sorted key_order fs)
    → ((q : List ℕ) → find key_order q es ≡ find key_order q fs) → es ≡ fs
same_contents es fs g h same =
    same_entries key_order nat_list_cmp_total
    (slice_cmp-IsAntisymmetric nat_cmp-IsAntisymmetric) es fs g h same

module _ (size : ℕ) (P : Places) (block : List ℕ) where
  abbrev C : KeyValues
  C = content size P block

  -- the value of a key is the row of the block at its place
  pub at_key-content : (q : List ℕ) → at_key q C ≡ option_map (block_row size block) (get P q)
  at_key-content q =
      find-changed (block_row size block) q (entries P)
      ∙ ap (option_map (block_row size block)) (sym (get-entries P q))

  is_some-option_map : {X Y : Type 0} (f : X → Y) (o : Option X)
      → is_some (option_map f o) ≡ is_some o
  is_some-option_map f None = refl
  is_some-option_map f (Some x) = refl

  pub has_key-content : (q : List ℕ) → has_key q C ≡ is_some (get P q)
  has_key-content q =
      ap is_some (at_key-content q) ∙ is_some-option_map (block_row size block) (get P q)

  pub length-content : length C ≡ len P
  length-content = length-changed (block_row size block) (entries P) ∙ sym (len-entries P)

  pub sorted-content : T (is_sorted key_order C)
  sorted-content =
      subst T (sym (is_sorted-changed (block_row size block) (entries P))) (entries_sorted P)

-- a key gets a place, and every other key keeps what it had
pub content-insert : (size : ℕ) (P : Places) (block k : List ℕ) (p : ℕ)
    → content size (insert P k p) block ≡ with_key k (block_row size block p) (content size P block)
content-insert size P block k p =
    let v : List ℕ = block_row size block p in
    let C : KeyValues = content size P block in
    same_contents (content size (insert P k p) block) (with_key k v C)
    (sorted-content size (insert P k p) block)
    (is_sorted-put key_order nat_list_cmp_total k v C (sorted-content size P block))
    (λ q. at_key-content size (insert P k p) block q
    ∙ ap (option_map (block_row size block)) (get-insert nat_list_cmp_total P k p q)
    ∙ elim (is_key q k) as (λ b. option_map (block_row size block) (cond b (Some p) (get P q))
    ≡ cond b (Some v) (option_map (block_row size block) (get P q))) [ true ↦ refl | false ↦ refl ]
    ∙ ap (cond (is_key q k) (Some v)) (sym (at_key-content size P block q))
    ∙ sym (find-put key_order nat_list_cmp_total q k v C))

-- a content with one key more, or one value changed
module _ (size n : ℕ) (P P' : Places) (block : List ℕ) (k v : List ℕ) (p : ℕ)
    (long : length v ≡ size) (whole : length block ≡ n * size) (inside : p < n)
    (here : get P' k ≡ Some p)
    (others : (q : List ℕ) → is_key q k ≡ false → get P' q ≡ get P q)
    (apart : (q : List ℕ) → is_key q k ≡ false → get P q ≡ Some p → ⊥) where
  abbrev B' : List ℕ
  B' = with_block_row size block p v

  -- the values at other places stay
  elsewhere : (o : Option ℕ) → (o ≡ Some p → ⊥)
      → option_map (block_row size B') o ≡ option_map (block_row size block) o
  elsewhere None d = refl
  elsewhere (Some j) d =
      ap Some (block_row-other size block p v n long whole inside j (λ e. d (ap Some e)))

  pub content-put : content size P' B' ≡ with_key k v (content size P block)
  content-put =
      same_contents (content size P' B') (with_key k v (content size P block))
      (sorted-content size P' B')
      (is_sorted-put key_order nat_list_cmp_total k v (content size P block)
      (sorted-content size P block))
      (λ q. at_key-content size P' B' q
      ∙ elim (is_key q k) as (λ b. is_key q k ≡ b → option_map (block_row size B') (get P' q)
      ≡ cond b (Some v) (at_key q (content size P block))) [
        | true ↦ λ t.
            ap (option_map (block_row size B')) (ap (get P') (is_key-equal q k t) ∙ here)
            ∙ ap Some (block_row-written size block p v n long whole inside)
        | false ↦
            λ t. ap (option_map (block_row size B')) (others q t) ∙ elsewhere (get P q) (apart q t)
            ∙ sym (at_key-content size P block q)
      ] refl
      ∙ sym (find-put key_order nat_list_cmp_total q k v (content size P block)))

-- a present key's value is written at its place
pub content-written : (size n : ℕ) (P : Places) (block k v : List ℕ) (p : ℕ) → length v ≡ size
    → length block ≡ n * size → p < n → get P k ≡ Some p
    → ((j : List ℕ) → get P j ≡ Some p → j ≡ k)
    → content size P (with_block_row size block p v) ≡ with_key k v (content size P block)
content-written size n P block k v p long whole inside here apart =
    content-put size n P P block k v p long whole inside here (λ q t. refl)
    (λ q t e. let h = ap (λ (x : List ℕ). is_key x k) (apart q e) ∙ is_key-itself k in cc)

-- a key has the place that it takes
pub get-taken : (P P' : Places) (k : List ℕ) (p : ℕ) → TakesPlace P k p P' → get P' k ≡ Some p
get-taken P P' k p t =
    ap (λ (m : Places). get m k) t.added ∙ get-insert nat_list_cmp_total P k p k
    ∙ ap (λ (b : Bool). cond b (Some p) (get P k)) (is_key-itself k)

-- a new key's value is written at the place that it takes
pub content-added : (size n : ℕ) (P P' : Places) (block k v : List ℕ) (p : ℕ) → length v ≡ size
    → length block ≡ n * size → p < n → TakesPlace P k p P'
    → content size P' (with_block_row size block p v) ≡ with_key k v (content size P block)
content-added size n P P' block k v p long whole inside takes =
    let at = λ (q : List ℕ). ap (λ (m : Places). get m q) takes.added
    ∙ get-insert nat_list_cmp_total P k p q in
    content-put size n P P' block k v p long whole inside
    (at k ∙ ap (λ (b : Bool). cond b (Some p) (get P k)) (is_key-itself k))
    (λ q t. at q ∙ ap (λ (b : Bool). cond b (Some p) (get P q)) t)
    (λ q t e. takes.free q e)

-- a key is removed
pub content-removed : (size : ℕ) (P : Places) (block k : List ℕ)
    → content size (remove P k) block ≡ without_key k (content size P block)
content-removed size P block k =
    same_contents (content size (remove P k) block) (without_key k (content size P block))
    (sorted-content size (remove P k) block)
    (is_sorted-where_key key_order (λ q. not (is_key k q)) (content size P block)
    (sorted-content size P block))
    (λ q. at_key-content size (remove P k) block q
    ∙ ap (option_map (block_row size block)) (get-remove nat_list_cmp_total P k q)
    ∙ elim (is_key q k) as (λ b. option_map (block_row size block) (cond b None (get P q))
    ≡ cond b None (option_map (block_row size block) (get P q))) [ true ↦ refl | false ↦ refl ]
    ∙ ap (cond (is_key q k) None) (sym (at_key-content size P block q))
    ∙ ap (λ (b : Bool). cond b None (at_key q (content size P block)))
    ((eq_by_cmp_equiv nat_list_cmp_total).symm q k)
    ∙ elim (is_key k q) as (λ b. cond b None (at_key q (content size P block))
    ≡ cond (not b) (at_key q (content size P block)) None)
    [ true ↦ refl | false ↦ refl ]
    ∙ sym (find-where_key key_order (λ x. not (is_key k x)) q
    (λ x e. ap (λ (y : List ℕ). not (is_key k y))
    (sym (slice_cmp-IsAntisymmetric nat_cmp-IsAntisymmetric q x e))) (content size P block)))
