-- Keys and values by their places, and the contents that they make: values found by serial,
-- written, put and removed.
use Rattle.live_maps.proofs.Common.{◌≡◌, ℕ, suc, ◌+◌, List, [], ◌∷◌, length, Option, Some, None, Bool, true, false, cond, refl, sym, ap, subst, ◌∙◌, arith, ◌≢◌, ◌==◌, T, ◌&&◌, nat_lt, not, All, slice_get, slice_index_or, position, position_or_len, splice, option_map, Less, Equal, Greater, nat_list_cmp_total, find, is_sorted, below_all, find-put, find-where_key, is_sorted-put, is_sorted-where_key, nat_tests, slice_get-get_or, Stored, index_of_serial, key_value_at, put_value, key_order, is_key, at_key, with_key, without_key, changed, find-changed, is_sorted-changed, same_contents, get_at, above, Places, is_key-equal, is_key-itself, value_bytes}
use Rattle.std.specs.Ordering.{is_eq, is_lt}
use Rattle.std.specs.declared.cmp.Ordering.{Ordering}
use Rattle.std.specs.Cmp.{eq_by_cmp_equiv}
use Rattle.std.specs.FinMap.{get, remove, entries, entries_sorted, get-entries, get-remove, slice_cmp-IsAntisymmetric, nat_cmp-IsAntisymmetric}
use Rattle.std.proofs.lemmas.List.Elements.{All-head, All-tail}

-- ---- the first that passes a test

zero_less : (n : ℕ) → nat_lt 0 (suc n) ≡ true
zero_less n = grind (arith, nat_tests)

suc_less : (m n : ℕ) → nat_lt (1 + m) (suc n) ≡ nat_lt m n
suc_less m n = elim (nat_lt m n) as (λ b. nat_lt m n ≡ b → nat_lt (1 + m) (suc n) ≡ b) [
  | true ↦ λ e. grind (arith, nat_tests)
  | false ↦ λ e. grind (arith, nat_tests)
] refl

option_if : (b : Bool) (n : ℕ) → cond b (Some (1 + n)) None ≡ option_map suc (cond b (Some n) None)
option_if true n = let e : 1 + n ≡ suc n = omega arith in ap Some e
option_if false n = refl

pub position-cons : {X : Type 0} (t : X → Bool) (x : X) (xs : List X)
    → position t (x ∷ xs) ≡ cond (t x) (Some 0) (option_map suc (position t xs))
position-cons t x xs = by (t x)
  where
    m : ℕ
    m = position_or_len t xs

    by : (b : Bool) → cond (nat_lt (cond (not b) (1 + m) 0) (suc (length xs)))
        (Some (cond (not b) (1 + m) 0)) None
        ≡ cond b (Some 0) (option_map suc (cond (nat_lt m (length xs)) (Some m) None))
    by true = ap (λ (c : Bool). cond c (Some 0) None) (zero_less (length xs))
    by false =
        ap (λ (c : Bool). cond c (Some (1 + m)) None) (suc_less m (length xs))
        ∙ option_if (nat_lt m (length xs)) m

-- ---- keys, no two of which have one place

equal_not_less : (r : Ordering) → is_eq r ≡ true → T (is_lt r) → ⊥
equal_not_less Less e t = absurd cc
equal_not_less Equal e t = t
equal_not_less Greater e t = t

abbrev Keyed : Type 0
Keyed = List (List ℕ × ℕ)

abbrev pub AreApart : Keyed → Type 0
AreApart [] = Unit {0}
AreApart (e ∷ es) = All (λ x. x.1 ≢ e.1) es × AreApart es

module _ (P : Places)
    (apart : (j k : List ℕ) (p : ℕ) → get P j ≡ Some p → get P k ≡ Some p → j ≡ k) where
  apart_in : (es : Keyed) → T (is_sorted key_order es)
      → ((k : ℕ) (e : List ℕ × ℕ) → slice_get es k ≡ Some e → get P e.0 ≡ Some e.1) → AreApart es
  apart_in [] sorted has = tt
  apart_in (e ∷ es) sorted has =
      let both = split (below_all key_order e.0 es) (is_sorted key_order es) sorted in (
        λ k d l same.
            let x = slice_index_or es k d in
            let there : slice_get es k ≡ Some x = slice_get-get_or es k d l in
            let less = above e.0 es k x both.0 there in
            let equal : x.0 ≡ e.0 =
            apart x.0 e.0 e.1 (has (suc k) x there ∙ ap Some same) (has 0 e refl) in
            let not_less : T (is_lt (key_order e.0 e.0)) =
            subst (λ (q : List ℕ). T (is_lt (key_order e.0 q))) equal less in
            let itself = is_key-itself e.0 in
            equal_not_less (key_order e.0 e.0) itself not_less,
        apart_in es both.1 (λ k x g. has (suc k) x g),
      )
    where
      split : (a b : Bool) → T (a && b) → T a × T b
      split true b t = (tt, t)
      split false b t = absurd t

  -- two keys of a map have two places
  pub keys-apart : AreApart (entries P)
  keys-apart = apart_in (entries P) (entries_sorted P) (get_at P)

-- ---- values by their serials

module _ (f : ℕ → Stored) (n : ℕ) where
  -- a value whose serial is not among them is not found
  pub index_of_serial-none : (es : Keyed) → All (λ e. ((f e.1).serial == n) ≡ false) es
      → index_of_serial (changed f es) n ≡ None
  index_of_serial-none [] all = refl
  index_of_serial-none (e ∷ es) all =
      position-cons (λ x. x.1.serial == n) (e.0, f e.1) (changed f es)
      ∙ ap (λ (b : Bool). cond b (Some 0) (option_map suc (index_of_serial (changed f es) n)))
      (All-head (λ e. ((f e.1).serial == n) ≡ false) e es all)
      ∙ ap (option_map suc)
      (index_of_serial-none es (All-tail (λ e. ((f e.1).serial == n) ≡ false) e es all))

  module _ (p : ℕ) (hit : ((f p).serial == n) ≡ true) where
    abbrev Only : Keyed → Type 0
    Only es = All (λ e. ((f e.1).serial == n) ≡ true → e.1 ≡ p) es

    one_of : (e : List ℕ × ℕ) (es : Keyed) → Only (e ∷ es) → ((f e.1).serial == n) ≡ true → e.1 ≡ p
    one_of e es only = All-head (λ e. ((f e.1).serial == n) ≡ true → e.1 ≡ p) e es only

    rest_of : (e : List ℕ × ℕ) (es : Keyed) → Only (e ∷ es) → Only es
    rest_of e es only = All-tail (λ e. ((f e.1).serial == n) ≡ true → e.1 ≡ p) e es only

    elsewhere : (e : List ℕ × ℕ) → ((f e.1).serial == n) ≡ false → e.1 ≢ p
    elsewhere e miss same =
        let h = ap (λ (q : ℕ). (f q).serial == n) same in let g = sym miss ∙ h ∙ hit in absurd cc

    after_first : (x : List ℕ × Stored) (xs : List (List ℕ × Stored)) (o : Option ℕ)
        → option_map (λ j. (key_value_at (x ∷ xs) j).1.bytes) (option_map suc o)
        ≡ option_map (λ j. (key_value_at xs j).1.bytes) o
    after_first x xs None = refl
    after_first x xs (Some j) = refl

    -- a value whose serial is among them is found
    pub value_bytes-found : (key : List ℕ) (es : Keyed) → Only es → find key_order key es ≡ Some p
        → value_bytes (changed f es) n ≡ Some (f p).bytes
    value_bytes-found key [] only there = absurd cc
    value_bytes-found key (e ∷ es) only there =
        ap (option_map (λ j. (key_value_at (changed f (e ∷ es)) j).1.bytes))
        (position-cons (λ x. x.1.serial == n) (e.0, f e.1) (changed f es))
        ∙ by ((f e.1).serial == n) refl (value_bytes-found key es (rest_of e es only))
      where
        by : (b : Bool) → ((f e.1).serial == n) ≡ b
            → (find key_order key es ≡ Some p → value_bytes (changed f es) n ≡ Some (f p).bytes)
            → option_map (λ j. (key_value_at (changed f (e ∷ es)) j).1.bytes)
            (cond b (Some 0) (option_map suc (index_of_serial (changed f es) n))) ≡ Some (f p).bytes
        by true h rest = ap (λ (q : ℕ). Some (f q).bytes) (one_of e es only h)
        by false h rest =
            after_first (e.0, f e.1) (changed f es) (index_of_serial (changed f es) n)
            ∙ rest
            (elim (is_key key e.0) as (λ b. cond b (Some e.1) (find key_order key es) ≡ Some p
            → find key_order key es ≡ Some p) [
              | true ↦ λ g. absurd (elsewhere e h cc)
              | false ↦ λ g. g
            ] there)

    module _ (f' : ℕ → Stored) (i : ℕ) (bytes : List ℕ)
        (here : f' p ≡ record (f p) { bytes = splice (f p).bytes i (i + length bytes) bytes })
        (others : (q : ℕ) → q ≢ p → f' q ≡ f q) where
      same_at : (es : Keyed) → All (λ x. x.1 ≢ p) es → changed f es ≡ changed f' es
      same_at [] all = refl
      same_at (e ∷ es) all =
          let first = others e.1 (All-head (λ x. x.1 ≢ p) e es all) in
          let rest = same_at es (All-tail (λ x. x.1 ≢ p) e es all) in
          λ i. (e.0, sym first i) ∷ rest i

      put_after : (x : List ℕ × Stored) (xs : List (List ℕ × Stored)) (o : Option ℕ)
          → put_value (x ∷ xs) (option_map suc o) i bytes ≡ x ∷ put_value xs o i bytes
      put_after x xs None = refl
      put_after x xs (Some j) = refl

      -- bytes written into the value at a place
      pub put_value-changed : (es : Keyed) → Only es → AreApart es
          → put_value (changed f es) (index_of_serial (changed f es) n) i bytes ≡ changed f' es
      put_value-changed [] only apart = refl
      put_value-changed (e ∷ es) only apart =
          ap (λ (o : Option ℕ). put_value (changed f (e ∷ es)) o i bytes)
          (position-cons (λ x. x.1.serial == n) (e.0, f e.1) (changed f es))
          ∙ by ((f e.1).serial == n) refl (put_value-changed es (rest_of e es only) apart.1)
        where
          by : (b : Bool) → ((f e.1).serial == n) ≡ b
              → put_value (changed f es) (index_of_serial (changed f es) n) i bytes ≡ changed f' es
              → put_value (changed f (e ∷ es))
              (cond b (Some 0) (option_map suc (index_of_serial (changed f es) n))) i bytes
              ≡ changed f' (e ∷ es)
          by true h tail =
              let equal : e.1 ≡ p = one_of e es only h in
              let first : record (f e.1) { bytes = splice (f e.1).bytes i (i + length bytes) bytes }
              ≡ f' e.1 =
              ap (λ (q : ℕ). record (f q) { bytes = splice (f q).bytes i (i + length bytes) bytes })
              equal ∙ sym here ∙ ap f' (sym equal) in
              let rest = same_at es (subst (λ (q : ℕ). All (λ x. x.1 ≢ q) es) equal apart.0) in
              λ i. (e.0, first i) ∷ rest i
          by false h tail =
              let first = others e.1 (elsewhere e h) in
              put_after (e.0, f e.1) (changed f es) (index_of_serial (changed f es) n)
              ∙ (λ i. (e.0, sym first i) ∷ tail i)

-- ---- keys put and removed

module _ (f f' : ℕ → Stored) (P : Places) (key : List ℕ)
    (same : (q : List ℕ) (j : ℕ) → is_key q key ≡ false → get P q ≡ Some j → f' j ≡ f j) where
  found_in : (g : ℕ → Stored) (Q : Places) (q : List ℕ)
      → find key_order q (changed g (entries Q)) ≡ option_map g (get Q q)
  found_in g Q q = find-changed g q (entries Q) ∙ ap (option_map g) (sym (get-entries Q q))

  sorted_in : (g : ℕ → Stored) (Q : Places) → T (is_sorted key_order (changed g (entries Q)))
  sorted_in g Q = subst T (sym (is_sorted-changed g (entries Q))) (entries_sorted Q)

  mapped : (q : List ℕ) → is_key q key ≡ false → option_map f' (get P q) ≡ option_map f (get P q)
  mapped q other = by (get P q) refl
    where
      by : (o : Option ℕ) → get P q ≡ o → option_map f' o ≡ option_map f o
      by None e = refl
      by (Some j) e = ap Some (same q j other e)

  -- a key has the value at its place
  pub changed-put : (P' : Places) (p : ℕ) → get P' key ≡ Some p
      → ((q : List ℕ) → is_key q key ≡ false → get P' q ≡ get P q)
      → changed f' (entries P') ≡ with_key key (f' p) (changed f (entries P))
  changed-put P' p here others =
      same_contents (changed f' (entries P')) (with_key key (f' p) (changed f (entries P)))
      (sorted_in f' P')
      (is_sorted-put key_order nat_list_cmp_total key (f' p) (changed f (entries P))
      (sorted_in f P))
      (λ q. found_in f' P' q
      ∙ elim (is_key q key) as (λ b. is_key q key ≡ b
      → option_map f' (get P' q) ≡ cond b (Some (f' p)) (at_key q (changed f (entries P)))) [
        | true ↦ λ t. ap (option_map f') (ap (get P') (is_key-equal q key t) ∙ here)
        | false ↦ λ t. ap (option_map f') (others q t) ∙ mapped q t ∙ sym (found_in f P q)
      ] refl
      ∙ sym (find-put key_order nat_list_cmp_total q key (f' p) (changed f (entries P))))

  negated : {A : Type 0} (b : Bool) (x y : A) → cond (not b) x y ≡ cond b y x
  negated true x y = refl
  negated false x y = refl

  -- a key has no value
  pub changed-removed : changed f' (entries (remove P key))
      ≡ without_key key (changed f (entries P))
  changed-removed =
      same_contents (changed f' (entries (remove P key))) (without_key key (changed f (entries P)))
      (sorted_in f' (remove P key))
      (is_sorted-where_key key_order (λ q. not (is_key key q)) (changed f (entries P))
      (sorted_in f P))
      (λ q. found_in f' (remove P key) q
      ∙ ap (option_map f') (get-remove nat_list_cmp_total P key q)
      ∙ elim (is_key q key) as (λ b. is_key q key ≡ b
      → option_map f' (cond b None (get P q)) ≡ cond b None (option_map f (get P q))) [
        | true ↦ λ t. refl
        | false ↦ λ t. mapped q t
      ] refl
      ∙ ap (cond (is_key q key) None) (sym (found_in f P q))
      ∙ ap (λ (b : Bool). cond b None (at_key q (changed f (entries P))))
      ((eq_by_cmp_equiv nat_list_cmp_total).symm q key)
      ∙ sym (negated (is_key key q) (at_key q (changed f (entries P))) None)
      ∙ sym (find-where_key key_order (λ x. not (is_key key x)) q
      (λ x e. ap (λ (y : List ℕ). not (is_key key y))
      (sym (slice_cmp-IsAntisymmetric nat_cmp-IsAntisymmetric q x e))) (changed f (entries P))))
