use Rattle.live_maps.proofs.Common.{◌∙◌, ℕ, List, length, sym, ap, arith, slice_get, values, get_or_from_slice_get, slice_get_within, IsMap, map_at}
use Rattle.live_maps.proofs.NumberingLaws.{values-few, values-within}
use Rattle.live_maps.proofs.reordering.list_places.Goals as goal

pub refill-requires-clause-few : goal.refill-requires-clause-few
refill-requires-clause-few c =
    let x = map_at c.args.maps.now c.args.map in
    let is : IsMap x = c.say_fits.ensures c.args.map _ c.requires.map in
    let few = values-few x is in
    let all = ap length (c.as_slice.ensures.value ∙ c.list_places.ensures.places) in
    let room = c.requires.room in
    omega arith

pub refill-requires-clause-small : goal.refill-requires-clause-small
refill-requires-clause-small c i p e =
    let x = map_at c.args.maps.now c.args.map in
    let is : IsMap x = c.say_fits.ensures c.args.map _ c.requires.map in
    let there = ap (λ (xs : List ℕ). slice_get xs i)
    (sym (c.as_slice.ensures.value ∙ c.list_places.ensures.places)) ∙ e in
    let at = slice_get_within (values x.places) i p there in
    let within = values-within x is i 0 at in
    let here = get_or_from_slice_get (values x.places) i p 0 there in
    let row = is.is_row.few_entries in
    omega arith
