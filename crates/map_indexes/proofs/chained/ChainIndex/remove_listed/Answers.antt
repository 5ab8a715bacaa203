use Rattle.map_indexes.proofs.Common.{◌≡◌, ◌<◌, ◌-◌, ◌++◌, ◌∷◌, [], ℕ, List, length, Some, None, true, sym, subst, arith, slice_set, PlaceKeys, key_in, AreKeys, key_inside, link_in, IsChainIndex, is_listed, found_places, AreRising, AreUnlinked}
use Rattle.map_indexes.proofs.KeyBytes.{AreKeys-cleared}
use Rattle.map_indexes.proofs.ScanLaws.{scan_some}
use Rattle.map_indexes.proofs.IndexChanges.{chain_index, listed_key, listed_removed, rising_fewer, unlinked_fewer}
use Rattle.map_indexes.proofs.OverflowLaws.{listed_at}
use Rattle.map_indexes.proofs.chained.ChainIndex.remove_listed.Goals as goal
use Rattle.map_indexes.proofs.chained.ChainIndex.remove_listed.Goals.{After-at-place}

-- the key at the place
its_key : (c : After-at-place) → (key : List ℕ)
    × (key_in c.args.self.now.keys.by_place c.at-place.result ≡ Some key)
its_key c =
    let s = c.args.self.now in
    let listed : List ℕ = s.overflow.places.items in
    listed_key (chain_index s) c.at-place.result
    (subst (λ (p : ℕ). is_listed listed p ≡ true) (sym c.at-place.ensures)
    (listed_at listed c.args.i c.requires))

inside : (c : After-at-place) → c.at-place.result < length c.args.self.now.keys.by_place
inside c =
    let k = its_key c in
    key_inside c.args.self.now.keys.by_place c.at-place.result k.0 k.1

pub clear-requires : goal.clear-requires
clear-requires c = record { place = inside (goal.at.clear-requires c).After-at-place }

pub overflow_cast-place : goal.overflow_cast-place
overflow_cast-place c =
    let s = c.args.self.now in
    let low = inside (goal.at.overflow_cast-place c).After-at-place in
    let room = s.links_room in
    let few = s.chains.few in
    omega arith

pub push_reserved-requires : goal.push_reserved-requires
push_reserved-requires c =
    let s = c.args.self.now in
    let keys : PlaceKeys = s.keys.by_place in
    let k = its_key (goal.at.push_reserved-requires c).After-at-place in
    let some =
    scan_some keys (length keys - length s.free.items) s.index.scan k.0 c.at-place.result k.1 in
    let few = s.index.few in
    let room = s.free_room in
    let n = s.free.ok.0 in
    omega arith

pub invariant_of-self-clause-index : goal.invariant_of-self-clause-index
invariant_of-self-clause-index c =
    let s = c.args.self.now in
    let keys : PlaceKeys = s.keys.by_place in
    let free : List ℕ = s.free.items in
    let listed : List ℕ = s.overflow.places.items in
    let k = its_key (goal.at.invariant_of-self-clause-index c).After-at-place in
    let p : ℕ = c.at-place.result in
    let n : ℕ = s.chains.count in
    let links = link_in s.chains.chains s.chains.nexts in
    let rest : List ℕ = c.remove.new.self.places.items in
    subst (λ (x : PlaceKeys). IsChainIndex x c.push_reserved.new.self.items n
    (found_places x n rest links)) (sym c.clear.ensures.keys)
    (subst (λ (x : List ℕ). IsChainIndex (slice_set keys p None) x n
    (found_places (slice_set keys p None) n rest links)) (sym c.push_reserved.ensures.items)
    (subst (λ (x : List ℕ). IsChainIndex (slice_set keys p None) (free ++ p ∷ []) n
    (found_places (slice_set keys p None) n x links)) (sym c.remove.ensures.rest)
    (listed_removed (chain_index s) p k.0 k.1 c.args.i c.requires (sym c.at-place.ensures))))

pub invariant_of-self-clause-rising : goal.invariant_of-self-clause-rising
invariant_of-self-clause-rising c =
    let s = c.args.self.now in
    let keys : PlaceKeys = s.keys.by_place in
    let p : ℕ = c.at-place.result in
    let k = its_key (goal.at.invariant_of-self-clause-rising c).After-at-place in
    subst (λ (x : PlaceKeys). AreRising x c.remove.new.self.places.items)
    (sym c.clear.ensures.keys)
    (subst (λ (x : List ℕ). AreRising (slice_set keys p None) x) (sym c.remove.ensures.rest)
    (rising_fewer (chain_index s) p k.0 k.1 c.args.i c.requires (sym c.at-place.ensures)))

pub invariant_of-self-clause-unlinked : goal.invariant_of-self-clause-unlinked
invariant_of-self-clause-unlinked c =
    let s = c.args.self.now in
    let p : ℕ = c.at-place.result in
    let k = its_key (goal.at.invariant_of-self-clause-unlinked c).After-at-place in
    subst (λ (x : List ℕ). AreUnlinked (link_in s.chains.chains s.chains.nexts) x)
    (sym c.remove.ensures.rest)
    (unlinked_fewer (chain_index s) p k.0 k.1 c.args.i c.requires (sym c.at-place.ensures))

pub invariant_of-self-clause-sized : goal.invariant_of-self-clause-sized
invariant_of-self-clause-sized c =
    let s = c.args.self.now in
    let keys : PlaceKeys = s.keys.by_place in
    let p : ℕ = c.at-place.result in
    let low = inside (goal.at.invariant_of-self-clause-sized c).After-at-place in
    let new = c.clear.new.self in
    subst (λ (n : ℕ). AreKeys n new.by_place) (sym c.clear.ensures.size)
    (subst (λ (x : PlaceKeys). AreKeys s.keys.size x) (sym c.clear.ensures.keys)
    (AreKeys-cleared s.keys.size keys s.sized p low))
