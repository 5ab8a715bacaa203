use Rattle.map_indexes.proofs.Common.{◌≡◌, ◌-◌, ◌++◌, ◌∷◌, [], ℕ, List, length, Some, None, sym, subst, arith, slice_set, Link, PlaceKeys, key_in, AreKeys, key_inside, link_in, IsChainIndex, found_places, AreRising}
use Rattle.map_indexes.proofs.KeyBytes.{AreKeys-cleared}
use Rattle.map_indexes.proofs.ScanLaws.{scan_some}
use Rattle.map_indexes.proofs.IndexChanges.{chain_index, some_link, linked_key, link_removed, rising_without, unlinked_without}
use Rattle.map_indexes.proofs.chained.ChainIndex.remove_link.Goals as goal
use Rattle.map_indexes.proofs.chained.ChainIndex.remove_link.Goals.{After-remove}

-- the link, and the key at its place
link : (c : After-remove) → (l : Link)
    × (link_in c.args.self.now.chains.chains c.args.self.now.chains.nexts c.args.place ≡ Some l)
link c =
    let s = c.args.self.now in
    some_link (link_in s.chains.chains s.chains.nexts c.args.place) c.requires

its_key : (c : After-remove) → (key : List ℕ)
    × (key_in c.args.self.now.keys.by_place c.args.place ≡ Some key)
its_key c =
    let s = c.args.self.now in
    let l = link c in
    linked_key (chain_index s) c.args.place l.0 l.1

pub clear-requires : goal.clear-requires
clear-requires c =
    let k = its_key (goal.at.clear-requires c).After-remove in
    record { place = key_inside c.args.self.now.keys.by_place c.args.place k.0 k.1 }

pub push_reserved-requires : goal.push_reserved-requires
push_reserved-requires c =
    let s = c.args.self.now in
    let keys : PlaceKeys = s.keys.by_place in
    let k = its_key (goal.at.push_reserved-requires c).After-remove in
    let some =
    scan_some keys (length keys - length s.free.items) s.index.scan k.0 c.args.place k.1 in
    let few = s.index.few in
    let room = s.free_room in
    let n = s.free.ok.0 in
    omega arith

pub invariant_of-self-clause-index : goal.invariant_of-self-clause-index
invariant_of-self-clause-index c =
    let s = c.args.self.now in
    let keys : PlaceKeys = s.keys.by_place in
    let free : List ℕ = s.free.items in
    let listed : List ℕ = s.overflow.places.items in
    let t = c.remove.new.self in
    let e = c.remove.ensures in
    let w = (goal.at.invariant_of-self-clause-index c).After-remove in
    let l = link w in
    let k = its_key w in
    let p : ℕ = c.args.place in
    let led = link_in t.chains t.nexts in
    subst (λ (x : PlaceKeys). IsChainIndex x c.push_reserved.new.self.items t.count
    (found_places x t.count listed led)) (sym c.clear.ensures.keys)
    (subst (λ (x : List ℕ). IsChainIndex (slice_set keys p None) x t.count
    (found_places (slice_set keys p None) t.count listed led)) (sym c.push_reserved.ensures.items)
    (subst (λ (x : ℕ). IsChainIndex (slice_set keys p None) (free ++ p ∷ []) x
    (found_places (slice_set keys p None) x listed led)) (sym e.count)
    (link_removed (chain_index s) p k.0 k.1 l.0 l.1 led e.removed (λ j d. e.others j d))))

pub invariant_of-self-clause-rising : goal.invariant_of-self-clause-rising
invariant_of-self-clause-rising c =
    let s = c.args.self.now in
    let t = c.remove.new.self in
    let e = c.remove.ensures in
    let w = (goal.at.invariant_of-self-clause-rising c).After-remove in
    let l = link w in
    let k = its_key w in
    subst (λ (x : PlaceKeys). AreRising x s.overflow.places.items) (sym c.clear.ensures.keys)
    (rising_without (chain_index s) c.args.place k.0 k.1 l.0 l.1 (link_in t.chains t.nexts)
    e.removed (λ j d. e.others j d))

pub invariant_of-self-clause-unlinked : goal.invariant_of-self-clause-unlinked
invariant_of-self-clause-unlinked c =
    let s = c.args.self.now in
    let t = c.remove.new.self in
    let e = c.remove.ensures in
    let w = (goal.at.invariant_of-self-clause-unlinked c).After-remove in
    let l = link w in
    let k = its_key w in
    unlinked_without (chain_index s) c.args.place k.0 k.1 l.0 l.1 (link_in t.chains t.nexts)
    e.removed (λ j d. e.others j d)

pub invariant_of-self-clause-sized : goal.invariant_of-self-clause-sized
invariant_of-self-clause-sized c =
    let s = c.args.self.now in
    let keys : PlaceKeys = s.keys.by_place in
    let p : ℕ = c.args.place in
    let k = its_key (goal.at.invariant_of-self-clause-sized c).After-remove in
    let new = c.clear.new.self in
    subst (λ (n : ℕ). AreKeys n new.by_place) (sym c.clear.ensures.size)
    (subst (λ (x : PlaceKeys). AreKeys s.keys.size x) (sym c.clear.ensures.keys)
    (AreKeys-cleared s.keys.size keys s.sized p (key_inside keys p k.0 k.1)))
