-- Chains after a link is put in or taken out.
use Rattle.map_indexes.proofs.Common.{◌≡◌, ℕ, ◌<◌, ◌≤◌, List, length, Option, Some, None, Bool, true, false, refl, sym, ap, subst, ◌∙◌, arith, inl, inr, nat_eq, slice_index_or, slice_set, if◌then◌else◌, cases_lt, Link, last_below, is_in, in_chain, IsChained, IsBehind, heads_led, next_led, link_led}
use Rattle.map_indexes.proofs.LastBelowLaws.{last_same, last_skip, last_here, last_above}
use Rattle.map_indexes.proofs.PlaceKeysLaws.{same_or_not}
use Rattle.map_indexes.proofs.ChainLaws.{place_or, is_in-led, in_chain-is, link_of, not_in, elsewhere, head_set, head_other, length-heads_led}

module _ (heads : List (Option ℕ)) (room : ℕ) (links new : ℕ → Option Link)
    (is : IsChained heads room links)
    (chain at : ℕ) (from to : Option ℕ) (inside : chain < length heads) (low : at < room)
    (behind : IsBehind (in_chain links chain) at from)
    (others : (j : ℕ) → (j ≡ at → ⊥) → new j ≡ link_led from to j (links j))
    (here : (l : Link) → new at ≡ Some l
    → (l.chain ≡ chain) × (l.next ≡ last_below (in_chain links chain) at))
    (apart : (h : ℕ) → (h ≡ chain → ⊥) → in_chain new h at ≡ in_chain links h at)
    (leads : last_below (in_chain new chain) (place_or room from) ≡ to) where
  rest : (h j : ℕ) → (j ≡ at → ⊥) → in_chain new h j ≡ in_chain links h j
  rest h j d = ap (is_in h) (others j d) ∙ is_in-led from to j h (links j)

  other_chain : (h j : ℕ) → (h ≡ chain → ⊥) → in_chain new h j ≡ in_chain links h j
  other_chain h j d = elim (same_or_not j at) [
    | inl e ↦ subst (λ (i : ℕ). in_chain new h i ≡ in_chain links h i) (sym e) (apart h d)
    | inr n ↦ rest h j n
  ]

  below : (h m : ℕ) → m ≤ at → last_below (in_chain links h) m ≡ last_below (in_chain new h) m
  below h m l =
      sym (last_same (in_chain links h) (in_chain new h) m (λ j b. rest h j (λ e. omega arith)))

  above : (m k : ℕ) → at < k → in_chain links chain k ≡ true → k < m
      → last_below (in_chain links chain) m ≡ last_below (in_chain new chain) m
  above m k a t b =
      sym (last_above (in_chain links chain) (in_chain new chain) k m b t
      (λ j p q. rest chain j (λ e. omega arith)))

  -- a link of the chain that stays, led to where its next one is now
  link_leads : (k : ℕ) (next : Option ℕ) → (k ≡ at → ⊥) → in_chain links chain k ≡ true
      → next ≡ last_below (in_chain links chain) k
      → next_led from to k next ≡ last_below (in_chain new chain) k
  link_leads k next d t e = elim (cases_lt k at) [
    | inl l ↦
        elim from as (λ o. from ≡ o → IsBehind (in_chain links chain) at o
        → next_led o to k next ≡ last_below (in_chain new chain) k) [
          | None ↦ λ f s. e ∙ below chain k (omega arith)
          | Some b ↦ λ f s.
              let up = s.0 in
              let apart_from : nat_eq k b ≡ false = grind arith in
              ap (λ (q : Bool). if q then to else next) apart_from ∙ e ∙ below chain k (omega arith)
        ] refl behind
    | inr g ↦
        elim from as (λ o. from ≡ o → IsBehind (in_chain links chain) at o
        → next_led o to k next ≡ last_below (in_chain new chain) k) [
          | None ↦ λ f s. let no = s k (omega (d, arith)) in absurd (cc)
          | Some b ↦ λ f s. elim (same_or_not k b) [
            | inl same ↦
                let eq : nat_eq k b ≡ true = grind arith in
                ap (λ (q : Bool). if q then to else next) eq ∙ sym leads
                ∙ ap (λ (o : Option ℕ). last_below (in_chain new chain) (place_or room o)) f
                ∙ ap (last_below (in_chain new chain)) (sym same)
            | inr n ↦ elim (cases_lt k b) [
              | inl l ↦ let no = s.2 k (omega (d, arith)) l in absurd (cc)
              | inr up ↦
                  let apart_from : nat_eq k b ≡ false = grind arith in
                  ap (λ (q : Bool). if q then to else next) apart_from ∙ e
                  ∙ above k b s.0 s.1 (omega (n, arith))
            ]
          ]
        ] refl behind
  ]

  -- a link of another chain is not led elsewhere
  stays : (k : ℕ) (l : Link) → links k ≡ Some l → (l.chain ≡ chain → ⊥)
      → next_led from to k l.next ≡ l.next
  stays k l e d =
      elim from as (λ o. IsBehind (in_chain links chain) at o → next_led o to k l.next ≡ l.next) [
        | None ↦ λ s. refl
        | Some b ↦ λ s. elim (same_or_not k b) [
          | inl same ↦
              let t : in_chain links chain k ≡ true = ap (in_chain links chain) same ∙ s.1 in
              let f : in_chain links chain k ≡ false = ap (is_in chain) e ∙ elsewhere l chain d in
              absurd (cc)
          | inr n ↦
              let apart_from : nat_eq k b ≡ false = grind arith in
              ap (λ (q : Bool). if q then to else l.next) apart_from
        ]
      ] behind

  led_falls : (k : ℕ) (l m : Link) → (k ≡ at → ⊥) → links k ≡ Some l → new k ≡ Some m
      → m.next ≡ last_below (in_chain new m.chain) k
  led_falls k l m d e f =
      let led : Some m ≡ link_led from to k (Some l) =
      sym f ∙ others k d ∙ ap (link_led from to k) e in
      let same : m ≡ record l { next = next_led from to k l.next } = cc in
      let c : m.chain ≡ l.chain = ap (λ (x : Link). x.chain) same in
      let n : m.next ≡ next_led from to k l.next = ap (λ (x : Link). x.next) same in
      let goal : next_led from to k l.next ≡ last_below (in_chain new l.chain) k =
      elim (same_or_not l.chain chain) [
        | inl q ↦
            link_leads k l.next d (in_chain-is links k l chain e q)
            (is.falls k l e ∙ ap (λ (h : ℕ). last_below (in_chain links h) k) q)
            ∙ ap (λ (h : ℕ). last_below (in_chain new h) k) (sym q)
        | inr q ↦
            stays k l e q ∙ is.falls k l e
            ∙ sym (last_same (in_chain links l.chain) (in_chain new l.chain) k
            (λ j b. other_chain l.chain j q))
      ] in
      n ∙ goal ∙ ap (λ (h : ℕ). last_below (in_chain new h) k) (sym c)

  -- a new link but `at` was there
  was : (k : ℕ) (m : Link) → (k ≡ at → ⊥) → new k ≡ Some m
      → (l : Link) × (links k ≡ Some l) × (m.chain ≡ l.chain)
  was k m d f =
      elim (links k) as (λ o. links k ≡ o → (l : Link) × (links k ≡ Some l) × (m.chain ≡ l.chain)) [
        | None ↦
            λ e. let g : Some m ≡ None = sym f ∙ others k d ∙ ap (link_led from to k) e in
            absurd (cc)
        | Some l ↦ λ e.
            let led : Some m ≡ link_led from to k (Some l) =
            sym f ∙ others k d ∙ ap (link_led from to k) e in
            let same : m ≡ record l { next = next_led from to k l.next } = cc in
            (l, e, ap (λ (x : Link). x.chain) same)
      ] refl

  led_first : (h : ℕ) → h < length heads
      → slice_index_or (heads_led from chain to heads) h None ≡ last_below (in_chain new h) room
  led_first h i = elim (same_or_not h chain) [
    | inl same ↦
        elim from as (λ o. from ≡ o → IsBehind (in_chain links chain) at o
        → slice_index_or (heads_led o chain to heads) h None ≡ last_below (in_chain new h) room) [
          | None ↦ λ f s.
              ap (λ (x : ℕ). slice_index_or (slice_set heads chain to) x None) same
              ∙ head_set heads chain to inside ∙ sym leads
              ∙ ap (λ (o : Option ℕ). last_below (in_chain new chain) (place_or room o)) f
              ∙ ap (λ (x : ℕ). last_below (in_chain new x) room) (sym same)
          | Some b ↦ λ f s.
              let l = link_of links chain b s.1 in
              is.first h i ∙ ap (λ (x : ℕ). last_below (in_chain links x) room) same
              ∙ above room b s.0 s.1 (is.within b l.0 l.1)
              ∙ ap (λ (x : ℕ). last_below (in_chain new x) room) (sym same)
        ] refl behind
    | inr n ↦
        let kept : slice_index_or (heads_led from chain to heads) h None
        ≡ slice_index_or heads h None =
        elim from as (λ o. slice_index_or (heads_led o chain to heads) h None
        ≡ slice_index_or heads h None) [
          | None ↦ head_other heads chain h to n
          | Some b ↦ refl
        ] in
        kept ∙ is.first h i
        ∙ sym (last_same (in_chain links h) (in_chain new h) room (λ j b. other_chain h j n))
  ]

  pub chained_led : IsChained (heads_led from chain to heads) room new
  chained_led =
      let count = length-heads_led from chain to heads in
      record {
        first = λ h i. led_first h (omega arith);
        falls = λ k m f. elim (same_or_not k at) [
          | inl e ↦
              let g : new at ≡ Some m = ap new (sym e) ∙ f in
              let r = here m g in
              r.1 ∙ below chain at (omega arith) ∙ ap (last_below (in_chain new chain)) (sym e)
              ∙ ap (λ (h : ℕ). last_below (in_chain new h) k) (sym r.0)
          | inr d ↦ let l = was k m d f in led_falls k l.0 m d l.1 f
        ];
        within = λ k m f. elim (same_or_not k at) [
          | inl e ↦ omega arith
          | inr d ↦ let l = was k m d f in is.within k l.0 l.1
        ];
        known = λ k m f. elim (same_or_not k at) [
          | inl e ↦ let r = here m (ap new (sym e) ∙ f) in let c = r.0 in omega arith
          | inr d ↦ let l = was k m d f in let i = is.known k l.0 l.1 in let c = l.2 in omega arith
        ];
      }

-- a link is put in at a place that no link had
pub chained_added : (heads : List (Option ℕ)) (room : ℕ) (links new : ℕ → Option Link)
    → IsChained heads room links
    → (at : ℕ) (link : Link) (from : Option ℕ) → link.chain < length heads → at < room
    → links at ≡ None
    → IsBehind (in_chain links link.chain) at from
    → link.next ≡ last_below (in_chain links link.chain) (place_or room from)
    → new at ≡ Some link → ((j : ℕ) → (j ≡ at → ⊥) → new j ≡ link_led from (Some at) j (links j))
    → IsChained (heads_led from link.chain (Some at) heads) room new
chained_added heads room links new is at link from inside low free behind next here others =
    let chain : ℕ = link.chain in
    let rest : (j : ℕ) → (j ≡ at → ⊥) → in_chain new chain j ≡ in_chain links chain j =
    λ j d. ap (is_in chain) (others j d) ∙ is_in-led from (Some at) j chain (links j) in
    let top : (at < place_or room from)
    × ((j : ℕ) → at < j → j < place_or room from → in_chain links chain j ≡ false) =
    elim from as (λ o. IsBehind (in_chain links chain) at o
    → (at < place_or room o)
    × ((j : ℕ) → at < j → j < place_or room o → in_chain links chain j ≡ false)) [
      | None ↦ λ s. (low, λ j a b. s j a)
      | Some k ↦ λ s. (s.0, s.2)
    ] behind in
    let up = top.0 in
    chained_led heads room links new is chain at from (Some at) inside low behind others
    (λ l e.
    let g : Some link ≡ Some l = sym here ∙ e in
    let same : link ≡ l = cc in (
      sym (ap (λ (x : Link). x.chain) same),
      sym (ap (λ (x : Link). x.next) same) ∙ next
          ∙ last_skip (in_chain links chain) at (place_or room from) (omega arith)
          (λ j a b. elim (same_or_not j at) [
            | inl e ↦ not_in links chain j (ap links e ∙ free)
            | inr d ↦ top.1 j (omega (d, arith)) b
          ]),
    ))
    (λ h d. ap (is_in h) here ∙ elsewhere link h (λ e. d (sym e)) ∙ sym (not_in links h at free))
    (last_here (in_chain new chain) at (place_or room from) up
    (in_chain-is new at link chain here refl)
    (λ j a b. rest j (λ e. omega arith) ∙ top.1 j a b))

-- a link is taken out
pub chained_removed : (heads : List (Option ℕ)) (room : ℕ) (links new : ℕ → Option Link)
    → IsChained heads room links
    → (at : ℕ) (link : Link) (from : Option ℕ) → links at ≡ Some link
    → IsBehind (in_chain links link.chain) at from
    → new at ≡ None → ((j : ℕ) → (j ≡ at → ⊥) → new j ≡ link_led from link.next j (links j))
    → IsChained (heads_led from link.chain link.next heads) room new
chained_removed heads room links new is at link from there behind gone others =
    let chain : ℕ = link.chain in
    let low = is.within at link there in
    let rest : (j : ℕ) → (j ≡ at → ⊥) → in_chain new chain j ≡ in_chain links chain j =
    λ j d. ap (is_in chain) (others j d) ∙ is_in-led from link.next j chain (links j) in
    let top : (at < place_or room from)
    × ((j : ℕ) → at < j → j < place_or room from → in_chain links chain j ≡ false) =
    elim from as (λ o. IsBehind (in_chain links chain) at o
    → (at < place_or room o)
    × ((j : ℕ) → at < j → j < place_or room o → in_chain links chain j ≡ false)) [
      | None ↦ λ s. (low, λ j a b. s j a)
      | Some k ↦ λ s. (s.0, s.2)
    ] behind in
    let up = top.0 in
    chained_led heads room links new is chain at from link.next
    (is.known at link there) low behind others
    (λ l e. let g : None ≡ Some l = sym gone ∙ e in absurd (cc))
    (λ h d. not_in new h at gone ∙ sym (ap (is_in h) there ∙ elsewhere link h (λ e. d (sym e))))
    (last_skip (in_chain new chain) at (place_or room from) (omega arith)
    (λ j a b. elim (same_or_not j at) [
      | inl e ↦ not_in new chain j (ap new e ∙ gone)
      | inr d ↦ rest j d ∙ top.1 j (omega (d, arith)) b
    ])
    ∙ last_same (in_chain links chain) (in_chain new chain) at (λ j b. rest j (λ e. omega arith))
    ∙ sym (is.falls at link there))
