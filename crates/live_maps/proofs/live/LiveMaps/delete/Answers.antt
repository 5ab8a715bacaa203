use Rattle.live_maps.proofs.Common.{◌≡◌, ◌<◌, ◌∙◌, sym, ap, subst, ℕ, length, Option, None, vec_capacity, ◌==◌, if◌then◌else◌, get, map_at, AreLiveMaps, serials_in}
use Rattle.live_maps.proofs.OneChanged.{OneChanged, row_known, changed-inside, changed-kept}
use Rattle.live_maps.proofs.Settling.{HasKeySize, deleted-answer, deleted-settled, taken-inside}
use Rattle.live_maps.proofs.live.LiveMaps.delete.Goals as goal
use Rattle.live_maps.proofs.live.LiveMaps.delete.Goals.{After-self, After-say_fits, After-place_done}

-- the map that is named
known : (c : After-self) → (c.args.map < length c.self.inside.maps)
    × HasKeySize c.args.key.now (map_at c.self.inside.maps c.args.map).row
known c =
    let i = c.self.inside in
    row_known (HasKeySize c.args.key.now) i.next i.maps (serials_in i.serials.items)
    c.args.self.now c.self.view_is c.args.map c.requires

pub find-found-requires-clause-map : goal.find-found-requires-clause-map
find-found-requires-clause-map c = (known (goal.at.find-found-requires-clause-map c).After-self).0

pub find-found-requires-clause-key_size : goal.find-found-requires-clause-key_size
find-found-requires-clause-key_size c =
    (known (goal.at.find-found-requires-clause-key_size c).After-self).1

pub delete-answer-requires-clause-map : goal.delete-answer-requires-clause-map
delete-answer-requires-clause-map c =
    (known (goal.at.delete-answer-requires-clause-map c).After-self).0

pub delete-answer-requires-clause-key_size : goal.delete-answer-requires-clause-key_size
delete-answer-requires-clause-key_size c =
    (known (goal.at.delete-answer-requires-clause-key_size c).After-self).1

-- one map may have changed
changed : (c : After-say_fits)
    → OneChanged (HasKeySize c.args.key.now) (vec_capacity c.self.inside.serials) c.self.inside.next
    c.self.inside.maps c.delete-answer.new.maps c.self.inside.serials.items c.args.self.now
    c.args.map
changed c = record {
  view = c.self.view_is;
  before = c.self.invariant;
  named = c.requires;
  others = c.delete-answer.ensures.others;
  are = c.say_fits.ensures;
}

pub take_from-requires-clause-index : goal.take_from-requires-clause-index
take_from-requires-clause-index c =
    changed-kept (changed (goal.at.take_from-requires-clause-index c).After-say_fits) _
    (sym c.self.inside.serials.ok.0)

-- the place of the key, if it was deleted
gone : (c : After-place_done)
    → c.place_done.result
    ≡ (if c.delete-answer.result == 0
    then get (map_at c.self.inside.maps c.args.map).places c.args.key.now else None)
gone c =
    c.place_done.ensures
    ∙ ap (λ (o : Option ℕ). if c.delete-answer.result == 0 then o else None) c.find-found.ensures

pub take_from-requires-clause-place : goal.take_from-requires-clause-place
take_from-requires-clause-place c =
    let at = goal.at.take_from-requires-clause-place c in
    taken-inside c.args.key.now (changed at.After-say_fits) c.delete-answer.result
    c.place_done.result (gone at.After-place_done)

pub take_from-requires-clause-fresh : goal.take_from-requires-clause-fresh
take_from-requires-clause-fresh c =
    let d = changed (goal.at.take_from-requires-clause-fresh c).After-say_fits in
    (c.self.invariant.3.each c.args.map (changed-inside d)).fresh

pub invariant_of-self : goal.invariant_of-self
invariant_of-self c =
    let at = goal.at.invariant_of-self c in
    let s = deleted-settled c.args.key.now (changed at.After-say_fits) c.delete-answer.result
    c.place_done.result c.take_from.new.all.items c.delete-answer.ensures.deleted
    (gone at.After-place_done) c.take_from.ensures.taken in
    subst (λ (n : ℕ). AreLiveMaps n c.self.inside.next c.delete-answer.new.maps
    c.take_from.new.all.items) (sym c.take_from.ensures.room) s.lives

pub returns-clause-answer : goal.returns-clause-answer
returns-clause-answer c =
    deleted-answer c.args.key.now (changed (goal.at.returns-clause-answer c).After-say_fits)
    c.delete-answer.result c.delete-answer.ensures.deleted

pub returns-clause-deleted : goal.returns-clause-deleted
returns-clause-deleted c =
    let at = goal.at.returns-clause-deleted c in
    (deleted-settled c.args.key.now (changed at.After-say_fits) c.delete-answer.result
    c.place_done.result c.take_from.new.all.items c.delete-answer.ensures.deleted
    (gone at.After-place_done) c.take_from.ensures.taken).seen
