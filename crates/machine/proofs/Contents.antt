-- The keys' values and places after a key is put or removed.
use Rattle.machine.proofs.Common.{◌≡◌, ℕ, ◌*◌, ◌<◌, List, [], ◌∷◌, length, Option, Some, None, Bool, true, false, cond, refl, sym, ap, subst, ◌∙◌, not, T, option_map, get, remove, entries, entries_sorted, get-entries, get-remove, slice_cmp-IsAntisymmetric, nat_cmp-IsAntisymmetric, key_order, is_key, at_key, with_key, without_key, with_block_row, block_row-written, block_row-other, Places, changed, find-changed, is_sorted-changed, by_place}
use Rattle.std.specs.Cmp.{eq_by_cmp_equiv}
use Rattle.std.specs.Cmp.Lexicographic.{nat_list_cmp_total}
use Rattle.std.specs.declared.cmp.Ordering.TheVariants.{Less, Equal, Greater}
use Rattle.std.specs.FinMap.Entries.{by_order, find, is_sorted, find-put, find-where_key, is_sorted-put, is_sorted-where_key}
use Rattle.map_indexes.specs.PlaceKeyLaws.{is_key-equal}
use Rattle.maps.proofs.ContentLaws.{same_contents}

-- ---- a value changed by a function, and a key put or removed

abbrev keyed : {Y : Type 0} → List ℕ → Y → (List ℕ × Y)
keyed key y = (key, y)

pub changed-with_key : {X Y : Type 0} (f : X → Y) (key : List ℕ) (x : X) (es : List (List ℕ × X))
    → changed f (with_key key x es) ≡ with_key key (f x) (changed f es)
changed-with_key f key x [] = refl
changed-with_key {X} {Y} f key x (e ∷ es) =
    elim (key_order key e.0) as (λ o.
    changed f (by_order o (keyed key x ∷ e ∷ es) (keyed e.0 x ∷ es) (e ∷ with_key key x es))
    ≡ by_order o (keyed key (f x) ∷ keyed e.0 (f e.1) ∷ changed f es)
    (keyed e.0 (f x) ∷ changed f es)
    (keyed e.0 (f e.1) ∷ with_key key (f x) (changed f es))) [
      | Less ↦ refl
      | Equal ↦ refl
      | Greater ↦
          ap (λ (l : List (List ℕ × Y)). keyed e.0 (f e.1) ∷ l) (changed-with_key f key x es)
    ]

pub changed-without_key : {X Y : Type 0} (f : X → Y) (key : List ℕ) (es : List (List ℕ × X))
    → changed f (without_key key es) ≡ without_key key (changed f es)
changed-without_key f key [] = refl
changed-without_key {X} {Y} f key (e ∷ es) =
    elim (is_key key e.0) as (λ b. changed f
    (cond (not b) (e ∷ without_key key es) (without_key key es))
    ≡ cond (not b) (keyed e.0 (f e.1) ∷ without_key key (changed f es))
    (without_key key (changed f es))) [
      | true ↦ changed-without_key f key es
      | false ↦ ap (λ (l : List (List ℕ × Y)). keyed e.0 (f e.1) ∷ l) (changed-without_key f key es)
    ]

-- ---- places

-- the place of a key
pub find-placed : {Y : Type 0} (f : ℕ → Y) (P : Places) (q : List ℕ)
    → find key_order q (changed f (entries P)) ≡ option_map f (get P q)
find-placed f P q = find-changed f q (entries P) ∙ ap (option_map f) (sym (get-entries P q))

sorted-placed : {Y : Type 0} (f : ℕ → Y) (P : Places)
    → T (is_sorted key_order (changed f (entries P)))
sorted-placed f P = subst T (sym (is_sorted-changed f (entries P))) (entries_sorted P)

-- a key is removed
pub placed-remove : {Y : Type 0} (f : ℕ → Y) (P : Places) (k : List ℕ)
    → changed f (entries (remove P k)) ≡ without_key k (changed f (entries P))
placed-remove {Y} f P k =
    same_contents (changed f (entries (remove P k))) (without_key k (changed f (entries P)))
    (sorted-placed f (remove P k))
    (is_sorted-where_key key_order (λ q. not (is_key k q)) (changed f (entries P))
    (sorted-placed f P))
    (λ q. find-placed f (remove P k) q
    ∙ ap (option_map f) (get-remove nat_list_cmp_total P k q)
    ∙ elim (is_key q k) as (λ b. option_map f (cond b None (get P q))
    ≡ cond b None (option_map f (get P q))) [ true ↦ refl | false ↦ refl ]
    ∙ ap (cond (is_key q k) None) (sym (find-placed f P q))
    ∙ ap (λ (b : Bool). cond b None (at_key q (changed f (entries P))))
    ((eq_by_cmp_equiv nat_list_cmp_total).symm q k)
    ∙ elim (is_key k q) as (λ b. cond b None (at_key q (changed f (entries P)))
    ≡ cond (not b) (at_key q (changed f (entries P))) None)
    [ true ↦ refl | false ↦ refl ]
    ∙ sym (find-where_key key_order (λ x. not (is_key k x)) q
    (λ x e. ap (λ (y : List ℕ). not (is_key k y))
    (sym (slice_cmp-IsAntisymmetric nat_cmp-IsAntisymmetric q x e))) (changed f (entries P))))

-- a value is put at the place that its key has afterwards, and that no other key has or had
module _ (size n : ℕ) (P P' : Places) (block k v : List ℕ) (p : ℕ) (long : length v ≡ size)
    (whole : length block ≡ n * size) (inside : p < n)
    (here : get P' k ≡ Some p)
    (others : (q : List ℕ) → is_key q k ≡ false → get P' q ≡ get P q)
    (apart : (q : List ℕ) → is_key q k ≡ false → get P q ≡ Some p → ⊥) where
  abbrev B' : List ℕ
  B' = with_block_row size block p v

  abbrev laid : List ℕ → (ℕ × List ℕ)
  laid row = (p * size, row)

  elsewhere : (o : Option ℕ) → (o ≡ Some p → ⊥)
      → option_map (by_place size B') o ≡ option_map (by_place size block) o
  elsewhere None d = refl
  elsewhere (Some j) d =
      λ i. Some (
        j * size,
        block_row-other size block p v n long whole inside j
            (λ e. d (ap Some e)) i,
      )

  pub placed-put : changed (by_place size B') (entries P')
      ≡ with_key k (laid v) (changed (by_place size block) (entries P))
  placed-put =
      same_contents (changed (by_place size B') (entries P'))
      (with_key k (laid v) (changed (by_place size block) (entries P)))
      (sorted-placed (by_place size B') P')
      (is_sorted-put key_order nat_list_cmp_total k (laid v)
      (changed (by_place size block) (entries P)) (sorted-placed (by_place size block) P))
      (λ q. find-placed (by_place size B') P' q
      ∙ elim (is_key q k) as (λ b. is_key q k ≡ b → option_map (by_place size B') (get P' q)
      ≡ cond b (Some (laid v)) (at_key q (changed (by_place size block) (entries P)))) [
        | true ↦ λ t.
            ap (option_map (by_place size B')) (ap (get P') (is_key-equal q k t) ∙ here)
            ∙ ap (λ (row : List ℕ). Some (laid row))
            (block_row-written size block p v n long whole inside)
        | false ↦
            λ t. ap (option_map (by_place size B')) (others q t) ∙ elsewhere (get P q) (apart q t)
            ∙ sym (find-placed (by_place size block) P q)
      ] refl
      ∙ sym (find-put key_order nat_list_cmp_total q k (laid v)
      (changed (by_place size block) (entries P))))
