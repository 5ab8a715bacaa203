-- Links in two lists: what they are, and their chains after one is put in or taken out.
use Rattle.map_indexes.proofs.Common.{◌≡◌, ℕ, ◌+◌, ◌<◌, List, length, Option, Some, None, Bool, true, false, refl, sym, ap, subst, ◌∙◌, arith, inl, inr, ◌^◌, IfSome, nat_eq, slice_index_or, slice_set, if◌then◌else◌, Link, last_below, in_chain, IsChained, IsBehind, chain_place, heads_led, next_led, link_led, link_with, link_in, nexts_led, led_from}
use Rattle.map_indexes.proofs.LastBelowLaws.{last_is}
use Rattle.map_indexes.proofs.PlaceKeysLaws.{same_or_not}
use Rattle.map_indexes.proofs.ChainLaws.{place_or, link_of, head_set, head_other, length-head_set}
use Rattle.map_indexes.proofs.ChainChanges.{chained_added, chained_removed}

chain_place-led : (from to : Option ℕ) (j : ℕ) (o : Option Link)
    → chain_place (link_led from to j o) ≡ chain_place o
chain_place-led from to j None = refl
chain_place-led from to j (Some l) = refl

-- the link before another one is there
pub behind_there : (links : ℕ → Option Link) (chain at : ℕ) (from : Option ℕ)
    → IsBehind (in_chain links chain) at from
    → (k : ℕ) → from ≡ Some k → (at < k) × (l : Link) × (links k ≡ Some l) × (l.chain ≡ chain)
behind_there links chain at from s k e =
    let b = subst (IsBehind (in_chain links chain) at) e s in
    let l = link_of links chain k b.1 in (b.0, l.0, l.1, l.2)

-- a link does not lead itself
led_itself : (test : ℕ → Bool) (at : ℕ) (from to next : Option ℕ) → IsBehind test at from
    → next_led from to at next ≡ next
led_itself test at None to next s = refl
led_itself test at (Some k) to next s =
    let up = s.0 in
    let apart : nat_eq at k ≡ false = grind arith in
    ap (λ (q : Bool). if q then to else next) apart

-- the parts of a link in two lists
link_is : (k : ℕ) (chain next : Option ℕ) (l : Link) → link_with k chain next ≡ Some l → (chain
    ≡ Some l.chain) × (l.place ≡ k) × (l.next ≡ next)
link_is k None next l e = absurd (cc)
link_is k (Some c) next l e =
    let m : Link = record { chain = c; place = k; next = next } in
    let same : m ≡ l = cc in (
      ap (λ (x : Link). Some x.chain) same,
      sym (ap (λ (x : Link). x.place) same),
      sym (ap (λ
          (x : Link). x.next) same),
    )

pub link_in-is : (chains nexts : List (Option ℕ)) (k : ℕ) (l : Link) → link_in chains nexts k
    ≡ Some l
    → (slice_index_or chains k None ≡ Some l.chain) × (l.place ≡ k) × (l.next
    ≡ slice_index_or nexts k None)
link_in-is chains nexts k l e = link_is k (slice_index_or chains k None)
    (slice_index_or nexts k None) l e

-- the place of a link is its own
pub link_own : (chains nexts : List (Option ℕ)) (k : ℕ) (l : Link) → link_in chains nexts k
    ≡ Some l → l.place ≡ k
link_own chains nexts k l e = (link_in-is chains nexts k l e).1

-- a link that is led elsewhere
link_in-led : (chains nexts : List (Option ℕ)) (from to : Option ℕ) → ((k : ℕ) → from ≡ Some k
    → k < length nexts) → (j : ℕ)
    → link_in chains (nexts_led from to nexts) j ≡ link_led from to j (link_in chains nexts j)
link_in-led chains nexts None to low j =
    elim (slice_index_or chains j None) as (λ o. link_with j o (slice_index_or nexts j None)
    ≡ link_led None to j (link_with j o (slice_index_or nexts j None))) [
      | None ↦ refl
      | Some c ↦ refl
    ]
link_in-led chains nexts (Some k) to low j =
    let now : slice_index_or (slice_set nexts k to) j None ≡ next_led (Some k) to j
    (slice_index_or nexts j None) =
    elim (same_or_not j k) [
      | inl s ↦
          let q : nat_eq j k ≡ true = grind arith in
          ap (λ (x : ℕ). slice_index_or (slice_set nexts k to) x None) s ∙ head_set nexts k to
          (low k refl)
          ∙ sym (ap (λ (b : Bool). if b then to else slice_index_or nexts j None) q)
      | inr d ↦
          let q : nat_eq j k ≡ false = grind arith in
          head_other nexts k j to d ∙ sym (ap (λ (b : Bool). if b then to else slice_index_or nexts
          j None) q)
    ] in
    elim (slice_index_or chains j None) as (λ o. link_with j o (slice_index_or
    (slice_set nexts k to) j None) ≡ link_led (Some k) to j (link_with j o
    (slice_index_or nexts j None))) [
      | None ↦ refl
      | Some c ↦ ap (λ (n : Option ℕ). Some (record { chain = c; place = j; next = n })) now
    ]

-- other links stay where one is written
link_in-other : (chains nexts : List (Option ℕ)) (at : ℕ) (chain next : Option ℕ) (j : ℕ) → (j
    ≡ at → ⊥)
    → link_in (slice_set chains at chain) (slice_set nexts at next) j ≡ link_in chains nexts j
link_in-other chains nexts at chain next j d = λ i. link_with j (head_other chains at j chain d i)
    (head_other nexts at j next d i)

link_in-gone : (chains nexts : List (Option ℕ)) (at j : ℕ) → (j ≡ at → ⊥) → link_in
    (slice_set chains at None) nexts j ≡ link_in chains nexts j
link_in-gone chains nexts at j d = λ i. link_with j (head_other chains at j None d i)
    (slice_index_or nexts j None)

-- a link that others lead to is one of the links, so its place fits
pub fits : (heads chains nexts : List (Option ℕ)) → IsChained heads (length chains)
    (link_in chains nexts) → length chains < 2 ^ 32
    → (chain m : ℕ) (next : Option ℕ) → next ≡ last_below (in_chain
    (link_in chains nexts) chain) m → IfSome next (λ k. k + 1 < 2 ^ 32)
fits heads chains nexts is few chain m None e = tt
fits heads chains nexts is few chain m (Some k) e =
    let r = last_is (in_chain (link_in chains nexts) chain) m k (sym e) in
    let t = link_of (link_in chains nexts) chain k r.1 in
    let w = is.within k t.0 t.1 in
    omega arith

module _ (heads chains nexts : List (Option ℕ)) (is : IsChained heads (length chains)
    (link_in chains nexts)) (whole : length nexts ≡ length chains)
    (chain at : ℕ) (from : Option ℕ) (behind : IsBehind (in_chain
    (link_in chains nexts) chain) at from) where
  -- the link before is one of the links
  pub before_inside : (k : ℕ) → from ≡ Some k → k < length nexts
  before_inside k e =
      let t = behind_there (link_in chains nexts) chain at from behind k e in
      let w = is.within k t.1 t.2 in
      omega arith

  pub before_some : IfSome from (λ k. k < length nexts)
  before_some = elim from as (λ o. from ≡ o → IfSome o (λ k. k < length nexts)) [
    | None ↦ λ e. tt
    | Some k ↦ λ e. before_inside k e
  ] refl

  -- what a new link leads to: what the link before it led to, or the start of the chain
  pub leads : chain < length heads → led_from from chain heads nexts ≡ last_below (in_chain
      (link_in chains nexts) chain) (place_or (length chains) from)
  leads inside =
      let test = in_chain (link_in chains nexts) chain in
      elim from as (λ o. from ≡ o → led_from o chain heads nexts ≡ last_below test (place_or
      (length chains) o)) [
        | None ↦ λ e. is.first chain inside
        | Some k ↦ λ e.
            let t = behind_there (link_in chains nexts) chain at from behind k e in
            sym (link_in-is chains nexts k t.1 t.2).2 ∙ is.falls k t.1 t.2
            ∙ ap (λ (h : ℕ). last_below (in_chain (link_in chains nexts) h) k) t.3
      ] refl

  module _ (next : Option ℕ) (low : at < length chains) where
    abbrev more : List (Option ℕ)
    more = slice_set chains at (Some chain)

    abbrev written : List (Option ℕ)
    written = slice_set nexts at next

    pub still_before : (k : ℕ) → from ≡ Some k → k < length written
    still_before k e =
        let b = before_inside k e in
        let n = length-head_set nexts at next in
        omega arith

    pub still_some : IfSome from (λ k. k < length written)
    still_some = elim from as (λ o. from ≡ o → IfSome o (λ k. k < length written)) [
      | None ↦ λ e. tt
      | Some k ↦ λ e. still_before k e
    ] refl

    added_others : (j : ℕ) → (j ≡ at → ⊥) → link_in more (nexts_led from (Some at) written) j
        ≡ link_led from (Some at) j (link_in chains nexts j)
    added_others j d =
        link_in-led more written from (Some at) still_before j ∙ ap (link_led from (Some at) j)
        (link_in-other chains nexts at (Some chain) next j d)

    added_here : link_in more (nexts_led from (Some at) written) at ≡ Some
        (record { chain = chain; place = at; next = next })
    added_here =
        link_in-led more written from (Some at) still_before at
        ∙ ap (link_led from (Some at) at) (λ i. link_with at (head_set chains at
        (Some chain) low i) (head_set nexts at next (subst (λ (n : ℕ). at < n) (sym whole) low) i))
        ∙ ap (λ (n : Option ℕ). Some (record { chain = chain; place = at; next = n })) (led_itself
        (in_chain (link_in chains nexts) chain) at from (Some at) next behind)

    pub added_chain_place : chain_place (link_in more (nexts_led from (Some at) written) at)
        ≡ Some (chain, at)
    added_chain_place = ap chain_place added_here

    pub added_chain_places : (j : ℕ) → (j ≡ at → ⊥) → chain_place (link_in more (nexts_led from
        (Some at) written) j) ≡ chain_place (link_in chains nexts j)
    added_chain_places j d =
        ap chain_place (added_others j d)
        ∙ chain_place-led from (Some at) j (link_in chains nexts j)

    pub lists_added : chain < length heads → link_in chains nexts at ≡ None
        → next ≡ last_below (in_chain (link_in chains nexts) chain) (place_or (length chains) from)
        → IsChained (heads_led from chain (Some at) heads) (length chains) (link_in more
        (nexts_led from (Some at) written))
    lists_added inside free led =
        chained_added heads (length chains) (link_in chains nexts) (link_in more (nexts_led from
        (Some at) written)) is at
        (record { chain = chain; place = at; next = next }) from inside low free behind led
        added_here added_others

  module _ (next : Option ℕ) where
    gone_others : (j : ℕ) → (j ≡ at → ⊥) → link_in (slice_set chains at None)
        (nexts_led from next nexts) j ≡ link_led from next j (link_in chains nexts j)
    gone_others j d =
        link_in-led (slice_set chains at None) nexts from next before_inside j ∙ ap
        (link_led from next j) (link_in-gone chains nexts at j d)

    pub gone_here : at < length chains → link_in (slice_set chains at None)
        (nexts_led from next nexts) at ≡ None
    gone_here low =
        ap (λ (o : Option ℕ). link_with at o (slice_index_or (nexts_led from next nexts) at None))
        (head_set chains at None low)

    pub gone_chain_places : (j : ℕ) → (j ≡ at → ⊥) → chain_place (link_in (slice_set chains at None)
        (nexts_led from next nexts) j) ≡ chain_place (link_in chains nexts j)
    gone_chain_places j d =
        ap chain_place (gone_others j d) ∙ chain_place-led from next j (link_in chains nexts j)

    pub lists_removed : (place : ℕ) → link_in chains nexts at ≡ Some
        (record { chain = chain; place = place; next = next })
        → IsChained (heads_led from chain next heads) (length chains) (link_in
        (slice_set chains at None) (nexts_led from next nexts))
    lists_removed place there =
        let link : Link = record { chain = chain; place = place; next = next } in
        chained_removed heads (length chains) (link_in chains nexts) (link_in
        (slice_set chains at None) (nexts_led from next nexts)) is at link from there behind
        (gone_here (is.within at link there)) gone_others
