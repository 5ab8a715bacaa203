use Rattle.live_maps.proofs.Common.{◌≡◌, ◌<◌, ◌^◌, ◌∙◌, ℕ, length, Option, sym, ap, subst, arith, vec_capacity, get, MapDef, map_at, Live, place_if_new, AreLiveMaps, serials_in}
use Rattle.live_maps.proofs.OneChanged.{OneChanged, row_known, changed-inside, changed-count, changed-kept, changed-row}
use Rattle.live_maps.proofs.Settling.{HaveSizes, given-inside, updated-answer, updated-settled}
use Rattle.live_maps.proofs.live.LiveMaps.update.Goals as goal
use Rattle.live_maps.proofs.live.LiveMaps.update.Goals.{After-self, After-say_fits, After-new_place-place}

-- the map that is named
known : (c : After-self) → (c.args.map < length c.self.inside.maps)
    × HaveSizes c.args.key.now c.args.value.now (map_at c.self.inside.maps c.args.map).row
known c =
    let i = c.self.inside in
    row_known (HaveSizes c.args.key.now c.args.value.now) i.next i.maps (serials_in i.serials.items)
    c.args.self.now c.self.view_is c.args.map c.requires.sizes

pub find-found-requires-clause-map : goal.find-found-requires-clause-map
find-found-requires-clause-map c = (known (goal.at.find-found-requires-clause-map c).After-self).0

pub find-found-requires-clause-key_size : goal.find-found-requires-clause-key_size
find-found-requires-clause-key_size c =
    (known (goal.at.find-found-requires-clause-key_size c).After-self).1.0

pub update-answer-requires-clause-map : goal.update-answer-requires-clause-map
update-answer-requires-clause-map c =
    (known (goal.at.update-answer-requires-clause-map c).After-self).0

pub update-answer-requires-clause-key_size : goal.update-answer-requires-clause-key_size
update-answer-requires-clause-key_size c =
    (known (goal.at.update-answer-requires-clause-key_size c).After-self).1.0

pub update-answer-requires-clause-value_size : goal.update-answer-requires-clause-value_size
update-answer-requires-clause-value_size c =
    (known (goal.at.update-answer-requires-clause-value_size c).After-self).1.1

-- one map may have changed
changed : (c : After-say_fits)
    → OneChanged (HaveSizes c.args.key.now c.args.value.now) (vec_capacity c.self.inside.serials)
    c.self.inside.next c.self.inside.maps c.update-answer.new.maps c.self.inside.serials.items
    c.args.self.now c.args.map
changed c = record {
  view = c.self.view_is;
  before = c.self.invariant;
  named = c.requires.sizes;
  others = c.update-answer.ensures.others;
  are = c.say_fits.ensures;
}

pub new_place-place-requires-clause-map : goal.new_place-place-requires-clause-map
new_place-place-requires-clause-map c =
    let d = changed (goal.at.new_place-place-requires-clause-map c).After-say_fits in
    let inside = changed-inside d in
    let count = changed-count d in
    omega arith

pub new_place-place-requires-clause-key_size : goal.new_place-place-requires-clause-key_size
new_place-place-requires-clause-key_size c =
    (changed-row (changed (goal.at.new_place-place-requires-clause-key_size c).After-say_fits)).0
    ∙ sym (ap (λ (r : MapDef). r.key_size) c.update-answer.ensures.updated.row)

pub give_next-self-inside-requires-clause-index : goal.give_next-self-inside-requires-clause-index
give_next-self-inside-requires-clause-index c =
    changed-kept (changed (goal.at.give_next-self-inside-requires-clause-index c).After-say_fits) _
    (sym c.self.inside.serials.ok.0)

-- the place that the key has now, if it had none before
came : (c : After-new_place-place)
    → c.new_place-place.result
    ≡ place_if_new (get (map_at c.self.inside.maps c.args.map).places c.args.key.now)
    (get (map_at c.update-answer.new.maps c.args.map).places c.args.key.now)
came c =
    c.new_place-place.ensures
    ∙ ap (λ (o : Option ℕ). place_if_new o
    (get (map_at c.update-answer.new.maps c.args.map).places c.args.key.now)) c.find-found.ensures

pub give_next-self-inside-requires-clause-place : goal.give_next-self-inside-requires-clause-place
give_next-self-inside-requires-clause-place c =
    let at = goal.at.give_next-self-inside-requires-clause-place c in
    given-inside c.args.key.now c.args.value.now c.args.flags (changed at.After-say_fits)
    c.new_place-place.result c.update-answer.ensures.updated.row (came at.After-new_place-place)

pub give_next-self-inside-requires-clause-next : goal.give_next-self-inside-requires-clause-next
give_next-self-inside-requires-clause-next c =
    subst (λ (l : Live). l.next_serial < 2 ^ 63) (sym c.self.view_is) c.requires.serial

pub invariant_of-self : goal.invariant_of-self
invariant_of-self c =
    let at = goal.at.invariant_of-self c in
    let n = c.give_next-self-inside in
    let s = updated-settled c.args.key.now c.args.value.now c.args.flags (changed at.After-say_fits)
    c.update-answer.result n.result c.new_place-place.result n.new.all.items
    c.update-answer.ensures.updated (came at.After-new_place-place) n.ensures.given in
    subst (λ (k : ℕ). AreLiveMaps k n.result c.update-answer.new.maps n.new.all.items)
    (sym n.ensures.room) s.lives

pub returns-clause-answer : goal.returns-clause-answer
returns-clause-answer c =
    updated-answer c.args.key.now c.args.value.now c.args.flags
    (changed (goal.at.returns-clause-answer c).After-say_fits) c.update-answer.result
    c.update-answer.ensures.updated

pub returns-clause-updated : goal.returns-clause-updated
returns-clause-updated c =
    let at = goal.at.returns-clause-updated c in
    let n = c.give_next-self-inside in
    (updated-settled c.args.key.now c.args.value.now c.args.flags (changed at.After-say_fits)
    c.update-answer.result n.result c.new_place-place.result n.new.all.items
    c.update-answer.ensures.updated (came at.After-new_place-place) n.ensures.given).seen
