-- Laws of an index by chains and a list: a key more or fewer, at a link or in the list.
use Rattle.map_indexes.proofs.Common.{◌≡◌, ℕ, ◌<◌, List, [], ◌∷◌, ◌++◌, length, Option, Some, None, Bool, true, false, ◌||◌, refl, sym, ap, subst, ◌∙◌, arith, inl, inr, IsSome, is_some, nat_eq, slice_set, option_map, get, remove, Link, IsChainIndex, chain_place, link_in, chain_of, place_at, is_listed, found_places, AreRising, AreUnlinked, PlaceKeys, key_in, places, key_inside}
use Rattle.map_indexes.specs.declared.chained.ChainIndex.{ChainIndex}
use Rattle.map_indexes.proofs.ChainIndexesLaws.{chain_index-added, chain_index-removed, last_inside, last_free}
use Rattle.map_indexes.proofs.FoundPlaces.{found_link, found_linked, found_listed, found_nothing, found_other, no_link}
use Rattle.map_indexes.proofs.ListedLinks.{link_own}
use Rattle.map_indexes.proofs.OverflowLaws.{listed_at, listed-remove, rising-other, rising-remove, listed-fewer, not_there}
use Rattle.map_indexes.proofs.PlaceKeysLaws.{same_or_not, set_here, set_else, get_here}

no_place : (o : Option Link) → chain_place o ≡ None → o ≡ None
no_place None e = refl
no_place (Some l) e = absurd (cc)

-- a link that is there
pub some_link : (o : Option Link) → IsSome o → (l : Link) × (o ≡ Some l)
some_link None e = absurd (cc)
some_link (Some l) e = (l, refl)

key_with : (chains c : ℕ) (o : Option (List ℕ)) → option_map (λ key. chain_of key chains) o ≡ Some c
    → (key : List ℕ) × (o ≡ Some key)
key_with chains c None e = absurd (cc)
key_with chains c (Some key) e = (key, refl)

-- an index by chains and a list
pub record IsIndex (keys : PlaceKeys) (free : List ℕ) (chains : ℕ) (listed : List ℕ)
    (links : ℕ → Option Link) : Type 0 where
  pub is : IsChainIndex keys free chains (found_places keys chains listed links)
  pub own : (k : ℕ) (l : Link) → links k ≡ Some l → l.place ≡ k
  pub rising : AreRising keys listed
  pub unlinked : AreUnlinked links listed

-- the last free place is p, and no place has the key
pub record TakesLast (keys : PlaceKeys) (free rest : List ℕ) (p : ℕ) (key : List ℕ) : Type 0 where
  pub parts : free ≡ rest ++ p ∷ []
  pub absent : get (places keys) key ≡ None

-- the fields of an index are one
pub chain_index : (s : ChainIndex)
    → IsIndex s.keys.by_place s.free.items s.chains.count s.overflow.places.items
    (link_in s.chains.chains s.chains.nexts)
chain_index s = record {
  is = s.index;
  own = link_own s.chains.chains s.chains.nexts;
  rising = s.rising;
  unlinked = s.unlinked;
}

module _ {keys : PlaceKeys} {free : List ℕ} {chains : ℕ} {listed : List ℕ} {links : ℕ → Option Link}
    (index : IsIndex keys free chains listed links) where
  abbrev at_start : ℕ → Option (ℕ × ℕ)
  at_start = found_places keys chains listed links

  -- the place of a link has a key
  pub linked_key : (p : ℕ) (l : Link) → links p ≡ Some l
      → (key : List ℕ) × (key_in keys p ≡ Some key)
  linked_key p l e =
      let k = key_with chains l.chain (key_in keys l.place)
      (index.is.sound p l.chain l.place (found_link keys chains listed links p l e)) in
      (k.0, ap (key_in keys) (sym (index.own p l e)) ∙ k.1)

  -- and so has a place in the list
  pub listed_key : (p : ℕ) → is_listed listed p ≡ true
      → (key : List ℕ) × (key_in keys p ≡ Some key)
  listed_key p e = of (key_in keys p) (index.rising.used p e) where
    of : (o : Option (List ℕ)) → is_some o ≡ true → (key : List ℕ) × (o ≡ Some key)
    of None f = absurd (cc)
    of (Some key) f = (key, refl)

  -- ---- the last free place gets a key
  module _ {rest : List ℕ} {p : ℕ} {key : List ℕ} (takes : TakesLast keys free rest p key) where
    abbrev more_keys : PlaceKeys
    more_keys = slice_set keys p (Some key)

    pub inside : p < length keys
    inside = last_inside keys free chains at_start index.is rest p takes.parts

    pub vacant : key_in keys p ≡ None
    vacant = last_free keys free chains at_start index.is rest p takes.parts

    pub link_free : links p ≡ None
    link_free = no_link keys chains listed links free index.is index.own p vacant

    outside : is_listed listed p ≡ true → ⊥
    outside e = let f = index.rising.used p e in let g = ap is_some vacant in cc

    pub still_rising : AreRising more_keys listed
    still_rising = rising-other keys listed index.rising p (Some key) outside

    -- no place in the list has it
    pub unlisted : (q : ℕ) → is_listed listed q ≡ true → key_in more_keys q ≡ Some key → ⊥
    unlisted q e f =
        let other : q ≡ p → ⊥ = λ s. outside (subst (λ (r : ℕ). is_listed listed r ≡ true) s e) in
        let g = get_here keys q key index.is.scan.distinct
        (sym (set_else keys p q (Some key) other) ∙ f) in
        cc

    -- at a link
    module _ (led : ℕ → Option Link) (here : chain_place (led p) ≡ Some (chain_of key chains, p))
        (others : (j : ℕ) → (j ≡ p → ⊥) → chain_place (led j) ≡ chain_place (links j)) where
      pub link_added :
          IsChainIndex more_keys rest chains (found_places more_keys chains listed led)
      link_added =
          chain_index-added keys free chains at_start index.is rest p takes.parts key takes.absent
          (found_places more_keys chains listed led) p
          (found_nothing keys chains listed links p link_free vacant)
          (found_linked more_keys chains listed led p (chain_of key chains, p) here)
          (λ j d. found_other keys chains listed links listed led p j (Some key) d (others j d)
          refl)

      pub still_unlinked : AreUnlinked led listed
      still_unlinked q e =
          let other : q ≡ p → ⊥ =
          λ s. outside (subst (λ (r : ℕ). is_listed listed r ≡ true) s e) in
          no_place (led q) (others q other ∙ ap chain_place (index.unlinked q e))

    -- in the list
    module _ (more : List ℕ)
        (one_more : (q : ℕ) → is_listed more q ≡ (nat_eq q p || is_listed listed q)) where
      here_too : is_listed more p ≡ true
      here_too =
          let same : nat_eq p p ≡ true = grind arith in
          one_more p ∙ ap (λ (b : Bool). b || is_listed listed p) same

      alike : (j : ℕ) → (j ≡ p → ⊥) → is_listed more j ≡ is_listed listed j
      alike j d =
          let other : nat_eq j p ≡ false = grind arith in
          one_more j ∙ ap (λ (b : Bool). b || is_listed listed j) other

      pub listed_added :
          IsChainIndex more_keys rest chains (found_places more_keys chains more links)
      listed_added =
          chain_index-added keys free chains at_start index.is rest p takes.parts key takes.absent
          (found_places more_keys chains more links) p
          (found_nothing keys chains listed links p link_free vacant)
          (found_listed more_keys chains more links p key link_free here_too
          (set_here keys p (Some key) inside))
          (λ j d. found_other keys chains listed links more links p j (Some key) d refl
          (alike j d))

      pub more_unlinked : AreUnlinked links more
      more_unlinked q e = elim (same_or_not q p) [
        | inl s ↦ ap links s ∙ link_free
        | inr d ↦ index.unlinked q (sym (alike q d) ∙ e)
      ]

  -- ---- a key is taken away from its place
  module _ (p : ℕ) (key : List ℕ) (present : key_in keys p ≡ Some key) where
    abbrev fewer_keys : PlaceKeys
    fewer_keys = slice_set keys p None

    abbrev longer : List ℕ
    longer = free ++ p ∷ []

    gone_key : key_in fewer_keys p ≡ None
    gone_key = set_here keys p None (key_inside keys p key present)

    -- at a link
    module _ (l : Link) (there : links p ≡ Some l) (led : ℕ → Option Link) (gone : led p ≡ None)
        (others : (j : ℕ) → (j ≡ p → ⊥) → chain_place (led j) ≡ chain_place (links j)) where
      not_listed : is_listed listed p ≡ true → ⊥
      not_listed e = let f = index.unlinked p e in cc

      at_p : at_start p ≡ Some (l.chain, p)
      at_p = found_link keys chains listed links p l there
          ∙ ap (λ (q : ℕ). let x : Option (ℕ × ℕ) = Some (l.chain, q) in x) (index.own p l there)

      pub link_removed :
          IsChainIndex fewer_keys longer chains (found_places fewer_keys chains listed led)
      link_removed =
          chain_index-removed keys free chains at_start index.is key p p l.chain at_p present
          (found_places fewer_keys chains listed led)
          (found_nothing fewer_keys chains listed led p gone gone_key)
          (λ j d. found_other keys chains listed links listed led p j None d (others j d) refl)

      pub rising_without : AreRising fewer_keys listed
      rising_without = rising-other keys listed index.rising p None not_listed

      pub unlinked_without : AreUnlinked led listed
      unlinked_without q e = elim (same_or_not q p) [
        | inl s ↦ ap led s ∙ gone
        | inr d ↦ no_place (led q) (others q d ∙ ap chain_place (index.unlinked q e))
      ]

    -- in the list
    module _ (i : ℕ) (low : i < length listed) (at : place_at listed i ≡ p) where
      in_list : is_listed listed p ≡ true
      in_list = subst (λ (r : ℕ). is_listed listed r ≡ true) at (listed_at listed i low)

      abbrev fewer_listed : List ℕ
      fewer_listed = remove listed i

      pub listed_removed :
          IsChainIndex fewer_keys longer chains (found_places fewer_keys chains fewer_listed links)
      listed_removed =
          chain_index-removed keys free chains at_start index.is key p p (chain_of key chains)
          (found_listed keys chains listed links p key (index.unlinked p in_list) in_list present)
          present (found_places fewer_keys chains fewer_listed links)
          (found_nothing fewer_keys chains fewer_listed links p (index.unlinked p in_list) gone_key)
          (λ j d. found_other keys chains listed links fewer_listed links p j None d refl
          (listed-remove listed i j low (λ s. d (s ∙ at))))

      pub rising_fewer : AreRising fewer_keys fewer_listed
      rising_fewer =
          rising-other keys fewer_listed (rising-remove keys listed index.rising i low) p None
          (λ e. not_there keys listed index.rising i low
          (subst (λ (r : ℕ). is_listed fewer_listed r ≡ true) (sym at) e))

      pub unlinked_fewer : AreUnlinked links fewer_listed
      unlinked_fewer q e = index.unlinked q (listed-fewer keys listed index.rising i low q e)
