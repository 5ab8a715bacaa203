use Rattle.live_maps.proofs.Common.{◌≡◌, ◌≤◌, ◌∙◌, ℕ, List, length, sym, ap, subst, arith, slice_get, slice_set, filter, insert, values, IsMap, map_at, Same, IsRising, is_same_at}
use Rattle.live_maps.proofs.ReorderLaws.{put_one, rising-filter, rising-values, room_for_one}
use Rattle.live_maps.proofs.reordering.put_place.Goals as goal
use Rattle.live_maps.proofs.reordering.put_place.Goals.{After-rank_for-rank}

pub rank_for-rank-requires-clause-rising : goal.rank_for-rank-requires-clause-rising
rank_for-rank-requires-clause-rising c =
    let x = map_at c.args.maps.now c.args.map in
    let is : IsMap x = c.say_fits.ensures c.args.map _ c.requires.map in
    subst (λ (xs : List ℕ). IsRising x.places xs) (sym c.requires.order)
    (rising-filter x.places (is_same_at c.args.since.now) (values x.places)
    (rising-values x.places is.apart))

-- the place is put where it belongs
put : (c : After-rank_for-rank)
    → insert (filter (is_same_at c.args.since.now)
    (values (map_at c.args.maps.now c.args.map).places)) c.rank_for-rank.result c.args.place
    ≡ filter (is_same_at (slice_set c.args.since.now c.args.place Same))
    (values (map_at c.args.maps.now c.args.map).places)
put c =
    let x = map_at c.args.maps.now c.args.map in
    let is : IsMap x = c.say_fits.ensures c.args.map _ c.requires.map in
    let e = c.requires.order in
    let found = c.rank_for-rank.ensures in
    put_one x c.args.since.now c.args.place c.rank_for-rank.result c.requires.place.0 is
    c.requires.place.1 c.requires.other c.requires.inside
    (subst (λ (xs : List ℕ). c.rank_for-rank.result ≤ length xs) e found.at_most)
    (λ i q l f. found.below i q l (ap (λ (xs : List ℕ). slice_get xs i) e ∙ f))
    (λ i q l f. found.after i q l (ap (λ (xs : List ℕ). slice_get xs i) e ∙ f))

pub insert-requires-clause-few : goal.insert-requires-clause-few
insert-requires-clause-few c =
    let x = map_at c.args.maps.now c.args.map in
    let is : IsMap x = c.say_fits.ensures c.args.map _ c.requires.map in
    let one = room_for_one x c.args.since.now c.args.place c.rank_for-rank.result is
    (put (goal.at.insert-requires-clause-few c).After-rank_for-rank) in
    let same = ap length c.requires.order in
    let room = c.requires.room in
    omega arith

pub returns-clause-order : goal.returns-clause-order
returns-clause-order c =
    c.insert.ensures.places
    ∙ ap (λ (xs : List ℕ). insert xs c.rank_for-rank.result c.args.place) c.requires.order
    ∙ put (goal.at.returns-clause-order c).After-rank_for-rank
