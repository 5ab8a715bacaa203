use Rattle.map_indexes.proofs.Common.{◌≡◌, ℕ, List, Some, None, refl, sym, ap, ◌∙◌, PlaceKeys, key_in, places, key_inside, link_in}
use Rattle.std.specs.FinMap as map
use Rattle.map_indexes.proofs.ListedLinks.{link_own}
use Rattle.map_indexes.proofs.ChainIndexesLaws.{found}
use Rattle.map_indexes.proofs.FoundPlaces.{nowhere}
use Rattle.map_indexes.proofs.PlaceKeysLaws.{get_here, places-emptied, remove_absent}
use Rattle.map_indexes.proofs.chained.ChainIndexIndex.remove.Goals as goal

pub returns-in_err-i-in-None-clause-hash : goal.returns-in_err-i-in-None-clause-hash
returns-in_err-i-in-None-clause-hash c = λ kind.
    let s = c.args.self.now in
    let absent : map.get (places s.keys.by_place) c.args.key.now ≡ None =
    nowhere s.keys.by_place s.chains.count s.overflow.places.items
    (link_in s.chains.chains s.chains.nexts) s.free.items s.index c.args.key.now
    (c.in-None.ensures.absent refl) (c.in_err-i-in-None.ensures.absent refl) in
    (c.from_residual.ensures ∙ sym absent, sym (remove_absent (places s.keys.by_place) c.args.key.now absent))

pub returns-in-Some-clause-hash : goal.returns-in-Some-clause-hash
returns-in-Some-clause-hash c = λ kind.
    let s = c.args.self.now in
    let keys : PlaceKeys = s.keys.by_place in
    let key : List ℕ = c.args.key.now in
    let p : ℕ = c.in-Some.place in
    let h = c.in-Some.ensures.found in
    let own = link_own s.chains.chains s.chains.nexts p h.link h.there in
    let present : key_in keys p ≡ Some key = sym (ap (key_in keys) own) ∙ h.has in (
      ap Some (sym own) ∙ sym (found keys s.free.items s.chains.count s.overflow.places.items
          (link_in s.chains.chains s.chains.nexts) s.index key p h),
      ap (λ (x : PlaceKeys). places x) c.remove_link.ensures.keys
          ∙ places-emptied keys p key (key_inside keys p key present) s.index.scan.distinct present,
    )

pub returns-in_ok-i-in-None-clause-hash : goal.returns-in_ok-i-in-None-clause-hash
returns-in_ok-i-in-None-clause-hash c = λ kind.
    let s = c.args.self.now in
    let keys : PlaceKeys = s.keys.by_place in
    let key : List ℕ = c.args.key.now in
    let p : ℕ = c.remove_listed.result in
    let present : key_in keys p ≡ Some key =
    ap (key_in keys) c.remove_listed.ensures.place ∙ c.in_ok-i-in-None.ensures.found in (
      sym (get_here keys p key s.index.scan.distinct present),
      ap (λ (x : PlaceKeys). places x) c.remove_listed.ensures.keys
          ∙ places-emptied keys p key (key_inside keys p key present) s.index.scan.distinct present,
    )
