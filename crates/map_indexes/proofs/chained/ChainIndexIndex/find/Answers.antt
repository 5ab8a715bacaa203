use Rattle.map_indexes.proofs.Common.{ℕ, List, Some, refl, sym, ap, ◌∙◌, link_in, place_at}
use Rattle.map_indexes.proofs.ListedLinks.{link_own}
use Rattle.map_indexes.proofs.ChainIndexesLaws.{found}
use Rattle.map_indexes.proofs.FoundPlaces.{nowhere}
use Rattle.map_indexes.proofs.PlaceKeysLaws.{get_here}
use Rattle.map_indexes.proofs.chained.ChainIndexIndex.find.Goals as goal

-- where a key's link is, the key has its place
pub returns-in-Some : goal.returns-in-Some
returns-in-Some c =
    let s = c.args.self.now in
    let links = link_in s.chains.chains s.chains.nexts in
    let h = c.in-Some.ensures.found in
    ap Some (sym (link_own s.chains.chains s.chains.nexts c.in-Some.place h.link h.there))
    ∙ sym (found s.keys.by_place s.free.items s.chains.count s.overflow.places.items links s.index
    c.args.key.now c.in-Some.place h)

pub returns-in-Some-find : goal.returns-in-Some-find
returns-in-Some-find c =
    let s = c.args.self.now in
    let listed : List ℕ = s.overflow.places.items in
    ap Some c.at.ensures
    ∙ sym (get_here s.keys.by_place (place_at listed c.in-Some-find.i) c.args.key.now
    s.index.scan.distinct c.in-Some-find.ensures.found)

pub returns-in-None-find : goal.returns-in-None-find
returns-in-None-find c =
    let s = c.args.self.now in
    sym (nowhere s.keys.by_place s.chains.count s.overflow.places.items
    (link_in s.chains.chains s.chains.nexts) s.free.items s.index c.args.key.now
    (c.in-None.ensures.absent refl) (c.in-None-find.ensures.absent refl))
