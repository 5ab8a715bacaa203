-- Chains: links by place, and the first link of each chain. The links of a chain are in descending
-- order of their places.
use Rattle.std.specs.Prelude.{◌≡◌, ℕ, ◌<◌, List, length, slice_index_or, slice_set, Option, Some, None, Bool, true, false, nat_eq, ◌+◌, if◌then◌else◌}
use Rattle.map_indexes.specs.declared.chains.Link.{Link}
use Rattle.map_indexes.specs.LastBelow.{last_below}

abbrev pub is_in : ℕ → Option Link → Bool
is_in chain None = false
is_in chain (Some link) = nat_eq link.chain chain

abbrev pub in_chain : (ℕ → Option Link) → ℕ → ℕ → Bool
in_chain links chain k = is_in chain (links k)

-- each chain begins with its link at the highest place, and each link leads to the one at the next
-- lower place; room is above all places
pub record IsChained (heads : List (Option ℕ)) (room : ℕ) (links : ℕ → Option Link) : Type 0 where
  pub first : (chain : ℕ) → chain < length heads
      → slice_index_or heads chain None ≡ last_below (in_chain links chain) room
  pub falls : (k : ℕ) (link : Link) → links k ≡ Some link
      → link.next ≡ last_below (in_chain links link.chain) k
  pub within : (k : ℕ) (link : Link) → links k ≡ Some link → k < room
  pub known : (k : ℕ) (link : Link) → links k ≡ Some link → link.chain < length heads

-- a link at the place `at` belongs right behind this one of a chain; None: at the chain's front
abbrev pub IsBehind : (ℕ → Bool) → ℕ → Option ℕ → Type 0
IsBehind test at None = (j : ℕ) → at < j → test j ≡ false
IsBehind test at (Some k) = (at < k) × (test k ≡ true) × ((j : ℕ) → at < j → j < k → test j ≡ false)

-- a link's chain and place
abbrev pub chain_place : Option Link → Option (ℕ × ℕ)
chain_place None = None
chain_place (Some link) = Some (link.chain, link.place)

-- one more than a link's place, or 0 at the end of a chain
abbrev pub height : Option ℕ → ℕ
height None = 0
height (Some k) = k + 1

-- ---- one link, or the start of a chain, leads to another one

abbrev pub heads_led : Option ℕ → ℕ → Option ℕ → List (Option ℕ) → List (Option ℕ)
heads_led None chain to heads = slice_set heads chain to
heads_led (Some k) chain to heads = heads

abbrev pub next_led : Option ℕ → Option ℕ → ℕ → Option ℕ → Option ℕ
next_led None to j next = next
next_led (Some k) to j next = if nat_eq j k then to else next

abbrev pub link_led : Option ℕ → Option ℕ → ℕ → Option Link → Option Link
link_led from to j None = None
link_led from to j (Some link) = Some (record link { next = next_led from to j link.next })

-- ---- links by place, in two lists: of the chain of each place that has a link, and of the place
-- of the next one

-- the link at place k, if it is in a chain
abbrev pub link_with : ℕ → Option ℕ → Option ℕ → Option Link
link_with k None next = None
link_with k (Some chain) next = Some (record { chain = chain; place = k; next = next })

abbrev pub link_in : List (Option ℕ) → List (Option ℕ) → ℕ → Option Link
link_in chains nexts k = link_with k (slice_index_or chains k None) (slice_index_or nexts k None)

abbrev pub nexts_led : Option ℕ → Option ℕ → List (Option ℕ) → List (Option ℕ)
nexts_led None to nexts = nexts
nexts_led (Some k) to nexts = slice_set nexts k to

-- what a link, or the start of a chain, leads to
abbrev pub led_from : Option ℕ → ℕ → List (Option ℕ) → List (Option ℕ) → Option ℕ
led_from None chain heads nexts = slice_index_or heads chain None
led_from (Some k) chain heads nexts = slice_index_or nexts k None
