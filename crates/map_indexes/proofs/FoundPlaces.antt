-- Laws of where keys are found: at links, and at places in the list of those whose chains were full.
use Rattle.map_indexes.proofs.Common.{◌≡◌, ℕ, List, Option, Some, None, Bool, true, false, if◌then◌else◌, refl, sym, ap, ap₂, ◌∙◌, slice_set, option_map, option_or, get, Link, HasKey, IsChainIndex, chain_place, chain_of, is_listed, listed_place, found_places, PlaceKeys, key_in, places}
use Rattle.std.proofs.Math.Logic.{∥∥₁_elim}
use Rattle.map_indexes.proofs.PlaceKeysLaws.{set_else, get_none}

-- what is found at a place, by whether it is in the list and by its key
abbrev by_key : ℕ → ℕ → Bool → Option (List ℕ) → Option (ℕ × ℕ)
by_key chains p b o = if b then option_map (λ key. (chain_of key chains, p)) o else None

by_key-none : (chains p : ℕ) (b : Bool) → by_key chains p b None ≡ None
by_key-none chains p true = refl
by_key-none chains p false = refl

by_key-is : (chains k c p : ℕ) (b : Bool) (o : Option (List ℕ)) → by_key chains k b o ≡ Some (c, p)
    → (b ≡ true) × (k ≡ p)
by_key-is chains k c p true None e = absurd (cc)
by_key-is chains k c p true (Some key) e =
    let x : ℕ × ℕ = (chain_of key chains, k) in
    let y : ℕ × ℕ = (c, p) in
    let f : x ≡ y = cc in (refl, ap (λ (z : ℕ × ℕ). z.1) f)
by_key-is chains k c p false o e = absurd (cc)

module _ (keys : PlaceKeys) (chains : ℕ) (listed : List ℕ) (links : ℕ → Option Link) where
  pub found_link : (k : ℕ) (l : Link) → links k ≡ Some l
      → found_places keys chains listed links k ≡ Some (l.chain, l.place)
  found_link k l e =
      ap (λ (o : Option Link). option_or (chain_place o) (listed_place keys chains listed k)) e

  -- by the chain and the place of a link alone
  pub found_linked : (k : ℕ) (x : ℕ × ℕ) → chain_place (links k) ≡ Some x
      → found_places keys chains listed links k ≡ Some x
  found_linked k x e =
      ap (λ (o : Option (ℕ × ℕ)). option_or o (listed_place keys chains listed k)) e

  pub found_listed : (p : ℕ) (key : List ℕ) → links p ≡ None → is_listed listed p ≡ true
      → key_in keys p ≡ Some key
      → found_places keys chains listed links p ≡ Some (chain_of key chains, p)
  found_listed p key e f g =
      ap (λ (o : Option Link). option_or (chain_place o) (listed_place keys chains listed p)) e
      ∙ ap₂ (by_key chains p) f g

  pub found_nothing : (p : ℕ) → links p ≡ None → key_in keys p ≡ None
      → found_places keys chains listed links p ≡ None
  found_nothing p e f =
      ap (λ (o : Option Link). option_or (chain_place o) (listed_place keys chains listed p)) e
      ∙ ap (by_key chains p (is_listed listed p)) f ∙ by_key-none chains p (is_listed listed p)

  -- another place gets a key, or loses it
  pub found_other : (more : List ℕ) (led : ℕ → Option Link) (p j : ℕ) (v : Option (List ℕ))
      → (j ≡ p → ⊥) → chain_place (led j) ≡ chain_place (links j)
      → is_listed more j ≡ is_listed listed j
      → found_places (slice_set keys p v) chains more led j
      ≡ found_places keys chains listed links j
  found_other more led p j v d e f =
      ap₂ (λ (x y : Option (ℕ × ℕ)). option_or x y) e
      (ap₂ (by_key chains j) f (set_else keys p j v d))

  module _ (free : List ℕ)
      (is : IsChainIndex keys free chains (found_places keys chains listed links)) where
    -- a place without a key has no link
    pub no_link : ((k : ℕ) (l : Link) → links k ≡ Some l → l.place ≡ k)
        → (p : ℕ) → key_in keys p ≡ None → links p ≡ None
    no_link own p none = elim (links p) as (λ o. links p ≡ o → o ≡ None) [
      | None ↦ λ e. refl
      | Some l ↦ λ e.
          let sound = is.sound p l.chain l.place (found_link p l e) in
          let gone : option_map (λ k. chain_of k chains) (key_in keys l.place) ≡ None =
          ap (λ (q : ℕ). option_map (λ k. chain_of k chains) (key_in keys q)) (own p l e)
          ∙ ap (option_map (λ k. chain_of k chains)) none in
          absurd (cc)
    ] refl

    -- a key that no link has, and no place in the list, has no place
    pub nowhere : (key : List ℕ) → ((k : ℕ) → HasKey keys links key k → ⊥)
        → ((p : ℕ) → is_listed listed p ≡ true → key_in keys p ≡ Some key → ⊥)
        → get (places keys) key ≡ None
    nowhere key no_links no_listed =
        get_none keys key
        (λ p e. ∥∥₁_elim (is.complete p key e) (λ x y. absurd x) (λ r.
        elim (links r.0) as (λ o. links r.0 ≡ o
        → option_or (chain_place o) (listed_place keys chains listed r.0)
        ≡ Some (chain_of key chains, p) → ⊥) [
          | None ↦ λ f g.
              let h =
              by_key-is chains r.0 (chain_of key chains) p (is_listed listed r.0)
              (key_in keys r.0) g in
              no_listed p (ap (is_listed listed) (sym h.1) ∙ h.0) e
          | Some l ↦ λ f g.
              let x : ℕ × ℕ = (l.chain, l.place) in
              let y : ℕ × ℕ = (chain_of key chains, p) in
              let s : x ≡ y = cc in
              let same : l.place ≡ p = ap (λ (z : ℕ × ℕ). z.1) s in
              no_links r.0
              (record { link = l; there = f; has = ap (key_in keys) same ∙ e })
        ] refl r.1))
