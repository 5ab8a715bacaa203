use Rattle.map_indexes.proofs.Common.{◌≡◌, ◌<◌, ℕ, List, Some, sym, ap, subst, ◌∙◌, arith, rules, slice_set, PlaceKeys, TakesPlace, key_in, places, AreKeys, got, chain_of, link_in, IsChainIndex, found_places, AreRising}
use Rattle.std.proofs.lemmas.List.Elements.{All-from_get_or}
use Rattle.map_indexes.proofs.KeyBytes.{AreKeys-put}
use Rattle.map_indexes.proofs.PlaceKeysLaws.{places-added, set_here}
use Rattle.map_indexes.proofs.IndexChanges.{TakesLast, chain_index, inside, vacant, link_free, still_rising, unlisted, link_added, still_unlinked, listed_added, more_unlinked}
use Rattle.map_indexes.proofs.chained.ChainIndexIndex.add.Goals as goal
use Rattle.map_indexes.proofs.chained.ChainIndexIndex.add.Goals.{In_ok-place, After-put}

takes : (c : In_ok-place) → TakesLast c.args.self.now.keys.by_place c.args.self.now.free.items
    c.pop.new.self.items c.in_ok-place.place c.args.key.now
takes c = record { parts = c.in_ok-place.ensures.items; absent = c.requires.absent }

abbrev new_keys : In_ok-place → PlaceKeys
new_keys c = slice_set c.args.self.now.keys.by_place c.in_ok-place.place (Some c.args.key.now)

taken : (c : In_ok-place)
    → TakesPlace (places c.args.self.now.keys.by_place) c.args.key.now c.in_ok-place.place
    (places (new_keys c))
taken c =
    let s = c.args.self.now in
    let keys : PlaceKeys = s.keys.by_place in
    let p : ℕ = c.in_ok-place.place in
    let free = vacant (chain_index s) (takes c) in
    record {
      added =
          places-added keys p c.args.key.now (inside (chain_index s) (takes c))
          s.index.scan.distinct c.requires.absent free;
      free = λ k e. let h = got keys k p e in cc;
    }

pub add-requires : goal.add-requires
add-requires c =
    let w = (goal.at.add-requires c).In_ok-place in
    let s = c.args.self.now in
    let index = chain_index s in
    let p : ℕ = c.in_ok-place.place in
    record {
      rising = subst (λ (x : PlaceKeys). AreRising x s.overflow.places.items)
          (sym c.put.ensures.keys) (still_rising index (takes w));
      room = search rules;
      key = ap (λ (x : PlaceKeys). key_in x p) c.put.ensures.keys
          ∙ set_here s.keys.by_place p (Some c.args.key.now) (inside index (takes w));
      absent = λ q e f. unlisted index (takes w) q e
          (ap (λ (x : PlaceKeys). key_in x q) (sym c.put.ensures.keys) ∙ f);
    }

pub add-requires-2-clause-at : goal.add-requires-2-clause-at
add-requires-2-clause-at c =
    let w = (goal.at.add-requires-2-clause-at c).In_ok-place in
    let low = inside (chain_index w.args.self.now) (takes w) in
    let room = c.args.self.now.links_room in
    omega arith

pub add-requires-2-clause-free : goal.add-requires-2-clause-free
add-requires-2-clause-free c =
    let w = (goal.at.add-requires-2-clause-free c).In_ok-place in
    link_free (chain_index w.args.self.now) (takes w)

-- keys of the map's size stay so
all_sized : (c : After-put) → AreKeys c.put.new.self.size c.put.new.self.by_place
all_sized c =
    let s = c.args.self.now in
    let w = (goal.at.After-put c).In_ok-place in
    let new = c.put.new.self in
    subst (λ (n : ℕ). AreKeys n new.by_place) (sym c.put.ensures.size)
    (subst (λ (x : PlaceKeys). AreKeys s.keys.size x) (sym c.put.ensures.keys)
    (AreKeys-put s.keys.size s.keys.by_place s.sized c.in_ok-place.place
    (inside (chain_index s) (takes w)) c.args.key.now
    (record {
      long = c.requires.size;
      bytes = All-from_get_or (λ b. b < 256) c.args.key.now 0
          (λ j l. omega (arith, c.type_inv.key j));
    })))

pub returns-then-has_room-clause-added : goal.returns-then-has_room-clause-added
returns-then-has_room-clause-added c =
    let w = (goal.at.returns-then-has_room-clause-added c).In_ok-place in
    rw c.put.ensures.keys (taken w)

pub returns-clause-added : goal.returns-clause-added
returns-clause-added c =
    let w = (goal.at.returns-clause-added c).In_ok-place in
    rw c.put.ensures.keys (taken w)

-- ---- in the list

pub invariant_of-self-then-has_room-clause-index : goal.invariant_of-self-then-has_room-clause-index
invariant_of-self-then-has_room-clause-index c =
    let w = (goal.at.invariant_of-self-then-has_room-clause-index c).In_ok-place in
    let s = c.args.self.now in
    let n : ℕ = s.chains.count in
    subst (λ (x : PlaceKeys). IsChainIndex x c.pop.new.self.items n
    (found_places x n c.add.new.self.places.items (link_in s.chains.chains s.chains.nexts)))
    (sym c.put.ensures.keys)
    (listed_added (chain_index s) (takes w) c.add.new.self.places.items c.add.ensures.listed)

pub invariant_of-self-then-has_room-clause-unlinked : goal.invariant_of-self-then-has_room-clause-unlinked
invariant_of-self-then-has_room-clause-unlinked c =
    let w = (goal.at.invariant_of-self-then-has_room-clause-unlinked c).In_ok-place in
    more_unlinked (chain_index w.args.self.now) (takes w) c.add.new.self.places.items
    c.add.ensures.listed

pub invariant_of-self-then-has_room-clause-sized : goal.invariant_of-self-then-has_room-clause-sized
invariant_of-self-then-has_room-clause-sized c =
    all_sized (goal.at.invariant_of-self-then-has_room-clause-sized c).After-put

-- ---- at a link

pub invariant_of-self-2 : goal.invariant_of-self-2
invariant_of-self-2 c =
    let w = (goal.at.invariant_of-self-2 c).In_ok-place in
    let s = c.args.self.now in
    let index = chain_index s in
    let listed : List ℕ = s.overflow.places.items in
    let t = c.add-2.new.self in
    let e = c.add-2.ensures in
    let led = link_in t.chains t.nexts in
    let chain : c.chain_of-chain.result ≡ chain_of c.args.key.now s.chains.count =
    c.chain_of-chain.ensures.chain ∙ ap (chain_of c.args.key.now) c.count.ensures in
    let added = e.added ∙ (λ i. Some (chain i, c.in_ok-place.place)) in
    record {
      index = subst (λ (x : PlaceKeys). IsChainIndex x c.pop.new.self.items t.count
          (found_places x t.count listed led)) (sym c.put.ensures.keys)
          (subst (λ (x : ℕ). IsChainIndex (new_keys w) c.pop.new.self.items x
          (found_places (new_keys w) x listed led)) (sym e.count)
          (link_added index (takes w) led added (λ j d. e.others j d)));
      rising = subst (λ (x : PlaceKeys). AreRising x listed) (sym c.put.ensures.keys)
          (still_rising index (takes w));
      unlinked = still_unlinked index (takes w) led added (λ j d. e.others j d);
      sized = all_sized (goal.at.invariant_of-self-2 c).After-put;
      some_chains = search rules;
      enough = search rules;
      links_room = search rules;
      overflow_room = search rules;
      free_room = search rules;
    }
