use Rattle.maps.proofs.Common.{ℕ, ◌-◌, ◌<◌, ◌∙◌, List, length, Bool, sym, ap, arith, if◌then◌else◌, vec_len, vec_capacity, len-entries, insert, places}
use Rattle.map_indexes.specs.ScanLaws.{scan_few}
use Rattle.maps.proofs.InsertLaws.{length-inserted, length-values_of}
use Rattle.maps.proofs.inserting.insert_place.Goals as goal

pub count_below-at-requires : goal.count_below-at-requires
count_below-at-requires c = c.as_slice.ensures.value ∙ c.requires.others

room_left : (c : goal.After-insert-inserted)
    → vec_len c.args.list.now < vec_capacity c.args.list.now
room_left c =
    let s = c.args.index.now in
    let P = places s.keys.by_place in
    let all = c.count_below-at.ensures.inserted c.args.place c.requires.place in
    let more = length-inserted c.as_slice.result.now c.count_below-at.result c.args.place in
    let lists = ap length all in
    let listed = ap length c.as_slice.ensures.value in
    let few =
    scan_few s.keys.by_place (length s.keys.by_place - length s.free.items) s.index.scan in
    let counted = len-entries P in
    let long = length-values_of P in
    let ok = c.args.list.now.ok.0 in
    let room = c.requires.room in
    omega arith

pub returns-clause-places : goal.returns-clause-places
returns-clause-places c =
    let yes = c.insert-inserted.ensures.succeeds (room_left c) in
    let all = c.count_below-at.ensures.inserted c.args.place c.requires.place in
    c.insert-inserted.ensures.items
    ∙ ap (λ (b : Bool). if b then insert c.args.list.now.items c.count_below-at.result c.args.place
    else c.args.list.now.items) yes
    ∙ ap (λ (xs : List ℕ). insert xs c.count_below-at.result c.args.place)
    (sym c.as_slice.ensures.value) ∙ all

pub returns-clause-capacity : goal.returns-clause-capacity
returns-clause-capacity c = (c.insert-inserted.ensures.in_place (room_left c)).1.0
