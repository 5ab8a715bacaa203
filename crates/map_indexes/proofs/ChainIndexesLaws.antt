-- Laws of keys found by chains: a key more or less, the free places, and look-ups.
use Rattle.map_indexes.proofs.Common.{◌≡◌, ℕ, ◌+◌, ◌-◌, ◌<◌, ◌≤◌, List, [], ◌∷◌, ◌++◌, length, Option, Some, None, true, refl, sym, ap, subst, ◌∙◌, arith, inl, inr, slice_set, replicate, cases_lt, get_or_append_left, length-append, length-set, length-replicate, option_map, get, Link, last_below, in_chain, chain_of, PlaceKeys, key_in, places, IsScan, key_inside, HasKey, IsChainIndex, free_at, found_places}
use Rattle.std.proofs.Math.Logic.{∥∥₁_map}
use Rattle.std.proofs.Math.Seq.{get_or-append_seam}
use Rattle.map_indexes.proofs.LastBelowLaws.{last_is, none_below}
use Rattle.map_indexes.proofs.ChainLaws.{link_of, in_chain-is}
use Rattle.map_indexes.proofs.PlaceKeysLaws.{key_in-none, same_or_not, set_here, set_else, get_here}
use Rattle.map_indexes.proofs.ScanLaws.{scan-added, scan-emptied, scan_some}
use Rattle.map_indexes.proofs.ScanLaws.{scan-none}
use Rattle.map_indexes.proofs.FoundPlaces.{found_link}

-- equal pairs have equal parts
first_is : (a b c d : ℕ) → ◌≡◌ {A = Option (ℕ × ℕ)} (Some (a, b)) (Some (c, d)) → a ≡ c
first_is a b c d e =
    let x : ℕ × ℕ = (a, b) in
    let y : ℕ × ℕ = (c, d) in let f : x ≡ y = cc in ap (λ (z : ℕ × ℕ). z.0) f

second_is : (a b c d : ℕ) → ◌≡◌ {A = Option (ℕ × ℕ)} (Some (a, b)) (Some (c, d)) → b ≡ d
second_is a b c d e =
    let x : ℕ × ℕ = (a, b) in
    let y : ℕ × ℕ = (c, d) in let f : x ≡ y = cc in ap (λ (z : ℕ × ℕ). z.1) f

key_of : (chains : ℕ) (o : Option (List ℕ)) (c : ℕ)
    → option_map (λ key. chain_of key chains) o ≡ Some c
    → (key : List ℕ) × (o ≡ Some key) × (c ≡ chain_of key chains)
key_of chains None c e = absurd (cc)
key_of chains (Some key) c e = (key, refl, cc)

has_chain : (chains : ℕ) (o : Option (List ℕ)) (c : ℕ) (key : List ℕ) → o ≡ Some key
    → c ≡ chain_of key chains
    → option_map (λ key. chain_of key chains) o ≡ Some c
has_chain chains o c key e f = ap (option_map (λ key. chain_of key chains)) e ∙ ap Some (sym f)

-- places without keys are free
pub chain_index-none : (n chains : ℕ) (free : List ℕ) (chain_places : ℕ → Option (ℕ × ℕ))
    → length free ≡ n → ((i : ℕ) → i < n → free_at free i ≡ n - 1 - i)
    → ((k : ℕ) → chain_places k ≡ None)
    → IsChainIndex (replicate n None) free chains chain_places
chain_index-none n chains free chain_places long down none =
    let whole : length (replicate {A = Option (List ℕ)} n None) ≡ n = length-replicate n None in
    record {
      few = omega arith;
      scan =
          let z : 0 ≡ length (replicate {A = Option (List ℕ)} n None) - length free = omega arith in
          subst (IsScan (replicate n None)) z (scan-none n);
      unused = λ i l. let d = down i (omega arith) in (omega arith, key_in-none n (free_at free i));
      once =
          λ i j l m e. let a = down i (omega arith) in let b = down j (omega arith) in omega arith;
      sound = λ k c p e. let f = none k in absurd (cc);
      complete = λ p key e. let f = key_in-none n p in absurd (cc);
      apart = λ j k b c p e f. let g = none j in absurd (cc);
    }

module _ (keys : PlaceKeys) (free : List ℕ) (chains : ℕ) (chain_places : ℕ → Option (ℕ × ℕ))
    (is : IsChainIndex keys free chains chain_places) where
  abbrev pub count_here : ℕ
  count_here = length keys - length free

  -- the key at the place of a link
  key_there : (k chain p : ℕ) → chain_places k ≡ Some (chain, p)
      → (key : List ℕ) × (key_in keys p ≡ Some key) × (chain ≡ chain_of key chains)
  key_there k chain p e = key_of chains (key_in keys p) chain (is.sound k chain p e)

  -- the last free place
  module _ (rest : List ℕ) (p : ℕ) (parts : free ≡ rest ++ p ∷ []) where
    ends : length free ≡ length rest + 1
    ends = ap length parts ∙ length-append rest (p ∷ [])

    last : free_at free (length rest) ≡ p
    last = ap (λ (xs : List ℕ). free_at xs (length rest)) parts ∙ get_or-append_seam rest p [] 0

    front : (i : ℕ) → i < length rest → free_at free i ≡ free_at rest i
    front i l = ap (λ (xs : List ℕ). free_at xs i) parts ∙ get_or_append_left rest (p ∷ []) 0 i l

    last_unused : (p < length keys) × (key_in keys p ≡ None)
    last_unused =
        let u = is.unused (length rest) (let e = ends in omega arith) in
        let l = last in
        let a = u.0 in
        (omega arith, ap (key_in keys) (sym l) ∙ u.1)

    pub last_inside : p < length keys
    last_inside = last_unused.0

    pub last_free : key_in keys p ≡ None
    last_free = last_unused.1

    module _ (key : List ℕ) (absent : get (places keys) key ≡ None) (new : ℕ → Option (ℕ × ℕ))
        (at : ℕ) (vacant : chain_places at ≡ None)
        (here : new at ≡ Some (chain_of key chains, p))
        (others : (j : ℕ) → (j ≡ at → ⊥) → new j ≡ chain_places j) where
      abbrev S : PlaceKeys
      S = slice_set keys p (Some key)

      -- a place that has a key is not the free one
      taken : (q : ℕ) (k : List ℕ) → key_in keys q ≡ Some k → q ≡ p → ⊥
      taken q k e f = let a : key_in keys q ≡ None = ap (key_in keys) f ∙ last_free in cc

      kept : (q : ℕ) (k : List ℕ) → key_in keys q ≡ Some k → key_in S q ≡ Some k
      kept q k e = set_else keys p q (Some key) (taken q k e) ∙ e

      pub chain_index-added : IsChainIndex S rest chains new
      chain_index-added = record {
        few = let a = is.few in let b = ends in let c = length-set keys p (Some key) in omega arith;
        scan =
            let a = is.few in
            let b = ends in
            let c = length-set keys p (Some key) in
            let n : count_here + 1 ≡ length S - length rest = omega arith in
            subst (IsScan S) n
            (scan-added keys count_here is.scan key p last_inside last_free absent);
        unused = λ i l.
            let e = ends in
            let u = is.unused i (omega arith) in
            let f = front i l in
            let b = u.0 in
            let c = length-set keys p (Some key) in
            let other : free_at rest i ≡ p
            → ⊥ = λ g. let h : i
            ≡ length rest = is.once i (length rest) (omega arith) (omega arith)
            (f ∙ g ∙ sym last) in omega arith in (
              omega arith,
              set_else keys p (free_at rest i) (Some key) other ∙ ap (key_in keys) (sym f) ∙ u.1,
            );
        once =
            λ i j l m g. let e =
            ends in is.once i j (omega arith) (omega arith) (front i l ∙ g ∙ sym (front j m));
        sound = λ k chain q e. elim (same_or_not k at) [
          | inl s ↦
              let f : Some (chain_of key chains, p) ≡ Some (chain, q) =
              sym here ∙ ap new (sym s) ∙ e in
              let a : chain_of key chains ≡ chain = first_is (chain_of key chains) p chain q f in
              let b : p ≡ q = second_is (chain_of key chains) p chain q f in
              has_chain chains (key_in S q) chain key
              (ap (key_in S) (sym b) ∙ set_here keys p (Some key) last_inside) (sym a)
          | inr d ↦
              let r = key_there k chain q (sym (others k d) ∙ e) in
              has_chain chains (key_in S q) chain r.0 (kept q r.0 r.1) r.2
        ];
        complete = λ q k e. elim (same_or_not q p) [
          | inl s ↦
              let f : Some key ≡ Some k =
              sym (set_here keys p (Some key) last_inside) ∙ ap (key_in S) (sym s) ∙ e in
              let a : key ≡ k = cc in
              ∣ (at, here ∙ (λ i. Some (chain_of (a i) chains, sym s i))) ∣₁
          | inr d ↦
              ∥∥₁_map (is.complete q k (sym (set_else keys p q (Some key) d) ∙ e))
              (λ r. (
                r.0,
                others r.0
                    (λ s. let f : None ≡ Some (chain_of k chains, q) =
                    sym vacant ∙ ap chain_places (sym s) ∙ r.1 in
                    cc) ∙ r.1,
              ))
        ];
        apart = λ j k b c q e f.
            let only : (i a : ℕ) → new i ≡ Some (a, q) → q ≡ p → i ≡ at =
            λ i a g s. elim (same_or_not i at) [
              | inl t ↦ t
              | inr d ↦ let r = key_there i a q (sym (others i d) ∙ g) in absurd (taken q r.0 r.1 s)
            ] in
            elim (same_or_not q p) [
              | inl s ↦ only j b e s ∙ sym (only k c f s)
              | inr d ↦
                  let old : (i a : ℕ) → new i ≡ Some (a, q) → i ≡ at → ⊥ =
                  λ i a g t. d (sym
                  (second_is (chain_of key chains) p a q (sym here ∙ ap new (sym t) ∙ g))) in
                  is.apart j k b c q (sym (others j (old j b e)) ∙ e)
                  (sym (others k (old k c f)) ∙ f)
            ];
      }

  module _ (key : List ℕ) (p at chain : ℕ) (there : chain_places at ≡ Some (chain, p))
      (present : key_in keys p ≡ Some key)
      (new : ℕ → Option (ℕ × ℕ)) (gone : new at ≡ None)
      (others : (j : ℕ) → (j ≡ at → ⊥) → new j ≡ chain_places j) where
    abbrev R : PlaceKeys
    R = slice_set keys p None

    inside : p < length keys
    inside = key_inside keys p key present

    abbrev longer : List ℕ
    longer = free ++ p ∷ []

    not_at : (k : ℕ) (x : ℕ × ℕ) → new k ≡ Some x → k ≡ at → ⊥
    not_at k x e s = let f : None ≡ Some x = sym gone ∙ ap new (sym s) ∙ e in cc

    -- a free place is not the key's
    apart_from : (i : ℕ) → i < length free → free_at free i ≡ p → ⊥
    apart_from i l e =
        let u = is.unused i l in
        let f : None ≡ Some key = sym u.1 ∙ ap (key_in keys) e ∙ present in cc

    old_free : (i : ℕ) → i < length free → free_at longer i ≡ free_at free i
    old_free i l = get_or_append_left free (p ∷ []) 0 i l

    new_free : (i : ℕ) → i < length longer → (i < length free → ⊥)
        → (i ≡ length free) × (free_at longer i ≡ p)
    new_free i l d =
        let n = length-append free (p ∷ []) in
        let e : i ≡ length free = omega (d, arith) in
        (e, ap (free_at longer) e ∙ get_or-append_seam free p [] 0)

    pub chain_index-removed : IsChainIndex R longer chains new
    chain_index-removed =
        let n = length-append free (p ∷ []) in
        let whole = length-set keys p None in
        record {
          few =
              let a = is.few in
              let b = scan_some keys count_here is.scan key p present in omega arith;
          scan =
              let a = is.few in
              let b = scan_some keys count_here is.scan key p present in
              let m : count_here - 1 ≡ length R - length longer = omega arith in
              subst (IsScan R) m (scan-emptied keys count_here is.scan key p present);
          unused = λ i l. elim (cases_lt i (length free)) [
            | inl b ↦
                let u = is.unused i b in
                let f = old_free i b in
                let w = u.0 in (
                  omega arith,
                  ap (key_in R) f
                      ∙ set_else keys p (free_at free i) None (apart_from i b) ∙ u.1,
                )
            | inr g ↦
                let f = new_free i l (λ b. omega arith) in
                let e = f.1 in
                let w = inside in
                (omega arith, ap (key_in R) e ∙ set_here keys p None inside)
          ];
          once = λ i j l m e. elim (cases_lt i (length free)) [
            | inl b ↦ elim (cases_lt j (length free)) [
              | inl c ↦ is.once i j b c (sym (old_free i b) ∙ e ∙ old_free j c)
              | inr g ↦
                  let f = new_free j m (λ b. omega arith) in
                  absurd (apart_from i b (sym (old_free i b) ∙ e ∙ f.1))
            ]
            | inr g ↦ let f = new_free i l (λ b. omega arith) in elim (cases_lt j (length free)) [
              | inl c ↦ absurd (apart_from j c (sym (old_free j c) ∙ sym e ∙ f.1))
              | inr h ↦ f.0 ∙ sym ((new_free j m (λ b. omega arith)).0)
            ]
          ];
          sound = λ k c q e.
              let d = not_at k (c, q) e in
              let f : chain_places k ≡ Some (c, q) = sym (others k d) ∙ e in
              let r = key_there k c q f in
              let other : q ≡ p
              → ⊥ = λ s. d (is.apart k at c chain p (f ∙ (λ i. Some (c, s i))) there) in
              has_chain chains (key_in R q) c r.0 (set_else keys p q None other ∙ r.1) r.2;
          complete = λ q k e.
              let other : q ≡ p
              → ⊥ = λ s. let f : None
              ≡ Some k = sym (set_here keys p None inside) ∙ ap (key_in R) (sym s) ∙ e in cc in
              ∥∥₁_map (is.complete q k (sym (set_else keys p q None other) ∙ e))
              (λ r. (
                r.0,
                others r.0
                    (λ s. other (second_is (chain_of k chains) q chain p
                    (sym r.1 ∙ ap chain_places s ∙ there))) ∙ r.1,
              ));
          apart = λ j k b c q e f.
              is.apart j k b c q (sym (others j (not_at j (b, q) e)) ∙ e)
              (sym (others k (not_at k (c, q) f)) ∙ f);
        }

-- what is left of the key's chain is below m, and no link from m on has the key
pub record Left (keys : PlaceKeys) (chains : ℕ) (links : ℕ → Option Link) (key : List ℕ)
    (next : Option ℕ) : Type 0 where
  pub m : ℕ
  pub is_next : next ≡ last_below (in_chain links (chain_of key chains)) m
  pub passed : (j : ℕ) → m ≤ j → HasKey keys links key j → ⊥

module _ (keys : PlaceKeys) (free : List ℕ) (chains : ℕ) (listed : List ℕ) (links : ℕ → Option Link)
    (is : IsChainIndex keys free chains (found_places keys chains listed links))
    (key : List ℕ) where
  link_sound : (k : ℕ) (l : Link) → links k ≡ Some l
      → (q : List ℕ) × (key_in keys l.place ≡ Some q) × (l.chain ≡ chain_of q chains)
  link_sound k l e =
      key_of chains (key_in keys l.place) l.chain (is.sound k l.chain l.place (found_link keys chains listed links k l e))

  -- the next link is there, and its place has a key
  pub next_there : (next : Option ℕ) → Left keys chains links key next → (k : ℕ) → next ≡ Some k
      → (l : Link) × (links k ≡ Some l) × (l.chain ≡ chain_of key chains) × (q : List ℕ)
      × (key_in keys l.place ≡ Some q)
  next_there next left k e =
      let r = last_is (in_chain links (chain_of key chains)) left.m k (sym left.is_next ∙ e) in
      let l = link_of links (chain_of key chains) k r.1 in
      let q = link_sound k l.0 l.1 in
      (l.0, l.1, l.2, q.0, q.1)

  -- a link with the key is in the key's chain
  in_its_chain : (j : ℕ) → HasKey keys links key j → in_chain links (chain_of key chains) j ≡ true
  in_its_chain j h =
      let r = link_sound j h.link h.there in
      let same : r.0 ≡ key = let f : Some r.0 ≡ Some key = sym r.1 ∙ h.has in cc in
      in_chain-is links j h.link (chain_of key chains) h.there
      (r.2 ∙ ap (λ (q : List ℕ). chain_of q chains) same)

  -- one link further
  pub left_next : (next : Option ℕ) → Left keys chains links key next → (k : ℕ) (l : Link)
      → next ≡ Some k → links k ≡ Some l → (key_in keys l.place ≡ Some key → ⊥)
      → l.next ≡ last_below (in_chain links l.chain) k → Left keys chains links key l.next
  left_next next left k l e there other falls =
      let r = last_is (in_chain links (chain_of key chains)) left.m k (sym left.is_next ∙ e) in
      let n = next_there next left k e in
      let same : n.0 ≡ l = let f : Some n.0 ≡ Some l = sym n.1 ∙ there in cc in
      record {
        m = k;
        is_next =
            falls ∙ ap (λ (h : ℕ). last_below (in_chain links h) k)
            (ap (λ (x : Link). x.chain) (sym same) ∙ n.2);
        passed = λ j b h. elim (same_or_not j k) [
          | inl s ↦
              let f : Some h.link ≡ Some l = sym h.there ∙ ap links s ∙ there in
              let g : h.link ≡ l = cc in
              other (ap (λ (x : Link). key_in keys x.place) (sym g) ∙ h.has)
          | inr d ↦ elim (cases_lt j left.m) [
            | inl a ↦ let no = r.2 j (omega (d, arith)) a in let yes = in_its_chain j h in cc
            | inr a ↦ left.passed j a h
          ]
        ];
      }

  pub found : (at : ℕ) → (h : HasKey keys links key at)
      → get (places keys) key ≡ Some (h.link.place)
  found at h = get_here keys h.link.place key is.scan.distinct h.has

  -- at the end of the chain, no link has the key
  pub not_found : Left keys chains links key None → (k : ℕ) → HasKey keys links key k → ⊥
  not_found left k h = elim (cases_lt k left.m) [
    | inl a ↦
        let no =
        none_below (in_chain links (chain_of key chains)) left.m (sym left.is_next) k a in
        let yes = in_its_chain k h in cc
    | inr a ↦ left.passed k a h
  ]
