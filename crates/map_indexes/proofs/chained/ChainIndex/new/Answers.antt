use Rattle.map_indexes.proofs.Common.{ℕ, sym, ap, subst, ◌∙◌, PlaceKeys, places, AreKeys, link_in, IsChainIndex, found_places, AreRising}
use Rattle.map_indexes.proofs.KeyBytes.{AreKeys-none}
use Rattle.map_indexes.proofs.ScanLaws.{places-none}
use Rattle.map_indexes.proofs.ChainIndexesLaws.{chain_index-none}
use Rattle.map_indexes.proofs.PlaceKeysLaws.{key_in-none}
use Rattle.map_indexes.proofs.FoundPlaces.{found_nothing}
use Rattle.map_indexes.proofs.OverflowLaws.{rising-nil}
use Rattle.map_indexes.proofs.chained.ChainIndex.new.Goals as goal

pub invariant_of-result-clause-index : goal.invariant_of-result-clause-index
invariant_of-result-clause-index c =
    let chains = c.in_ok-chains.chains in
    let listed = c.in_ok-overflow.overflow.places.items in
    let free = c.in_ok-free.free in
    let n : ℕ = c.args.entries in
    let links = link_in chains.chains chains.nexts in
    subst (λ (x : PlaceKeys). IsChainIndex x free.items chains.count
    (found_places x chains.count listed links)) (sym c.in_ok-keys.ensures.empty)
    (chain_index-none n chains.count free.items (found_places _ chains.count listed links)
    c.in_ok-free.ensures.len c.in_ok-free.ensures.places
    (λ k. found_nothing _ chains.count listed links k (c.in_ok-chains.ensures.empty k)
    (key_in-none n k)))

pub invariant_of-result-clause-rising : goal.invariant_of-result-clause-rising
invariant_of-result-clause-rising c =
    subst (AreRising c.in_ok-keys.keys.by_place) (sym c.in_ok-overflow.ensures.empty)
    (rising-nil c.in_ok-keys.keys.by_place)

pub invariant_of-result-clause-unlinked : goal.invariant_of-result-clause-unlinked
invariant_of-result-clause-unlinked c =
    λ p e. c.in_ok-chains.ensures.empty p

pub invariant_of-result-clause-sized : goal.invariant_of-result-clause-sized
invariant_of-result-clause-sized c =
    let size = c.in_ok-keys.keys.size in
    subst (λ (x : PlaceKeys). AreKeys size x) (sym c.in_ok-keys.ensures.empty)
    (AreKeys-none size c.args.entries)

pub returns-clause-empty : goal.returns-clause-empty
returns-clause-empty c =
    ap (λ (x : PlaceKeys). places x) c.in_ok-keys.ensures.empty ∙ places-none c.args.entries
