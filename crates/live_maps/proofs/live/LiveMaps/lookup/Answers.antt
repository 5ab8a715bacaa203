use Rattle.live_maps.proofs.Common.{◌≡◌, ◌∙◌, None, sym, ap, length, arith, rules, option_map, MapDef, at_key, serials_in, Live, content_at}
use Rattle.live_maps.proofs.LookUpLaws.{lookup-absent, lookup-present}
use Rattle.live_maps.proofs.OneChanged.{row_known}
use Rattle.live_maps.proofs.live.LiveMaps.lookup.Goals as goal

pub find-requires-clause-map : goal.find-requires-clause-map
find-requires-clause-map c =
    let i = c.self.inside in
    let P : MapDef → Type 0 = λ row. length c.args.key.now ≡ row.key_size in
    let known = row_known P i.next i.maps (serials_in i.serials.items) c.args.self.now c.self.view_is c.args.map
    c.requires in
    known.0

pub find-requires-clause-key_size : goal.find-requires-clause-key_size
find-requires-clause-key_size c =
    let i = c.self.inside in
    let P : MapDef → Type 0 = λ row. length c.args.key.now ≡ row.key_size in
    let known = row_known P i.next i.maps (serials_in i.serials.items) c.args.self.now c.self.view_is c.args.map
    c.requires in
    known.1

pub serial_at-requires-clause-index : goal.serial_at-requires-clause-index
serial_at-requires-clause-index c =
    let i = c.self.inside in
    let P : MapDef → Type 0 = λ row. length c.args.key.now ≡ row.key_size in
    let known = row_known P i.next i.maps (serials_in i.serials.items) c.args.self.now c.self.view_is c.args.map
    c.requires in
    let inside = known.0 in
    let long = c.self.invariant.3.long in
    let items = i.serials.ok.0 in
    omega arith

pub serial_at-requires-clause-distinct : goal.serial_at-requires-clause-distinct
serial_at-requires-clause-distinct c =
    let i = c.self.inside in
    let P : MapDef → Type 0 = λ row. length c.args.key.now ≡ row.key_size in
    let known = row_known P i.next i.maps (serials_in i.serials.items) c.args.self.now
    c.self.view_is c.args.map c.requires in
    (c.self.invariant.3.each c.args.map known.0).distinct

pub serial_at-requires-clause-place : goal.serial_at-requires-clause-place
serial_at-requires-clause-place c =
    let i = c.self.inside in
    let P : MapDef → Type 0 = λ row. length c.args.key.now ≡ row.key_size in
    let known = row_known P i.next i.maps (serials_in i.serials.items) c.args.self.now c.self.view_is c.args.map
    c.requires in
    (lookup-present i.next i.maps (serials_in i.serials.items) c.args.map c.self.invariant.2 known.0
    c.args.key.now c.in_ok-place.place (sym c.in_ok-place.ensures.place)).0

pub returns-clause-serial : goal.returns-clause-serial
returns-clause-serial c =
    let i = c.self.inside in
    let P : MapDef → Type 0 = λ row. length c.args.key.now ≡ row.key_size in
    let known = row_known P i.next i.maps (serials_in i.serials.items) c.args.self.now c.self.view_is c.args.map
    c.requires in
    let r =
    lookup-present i.next i.maps (serials_in i.serials.items) c.args.map c.self.invariant.2 known.0
    c.args.key.now c.in_ok-place.place (sym c.in_ok-place.ensures.place) in
    c.serial_at.ensures ∙ sym r.1
    ∙ ap (λ (l : Live). option_map (λ v. v.serial)
    (at_key c.args.key.now (content_at l c.args.map))) c.self.view_is

pub returns-in_err-place-clause-serial : goal.returns-in_err-place-clause-serial
returns-in_err-place-clause-serial c =
    let i = c.self.inside in
    let P : MapDef → Type 0 = λ row. length c.args.key.now ≡ row.key_size in
    let known = row_known P i.next i.maps (serials_in i.serials.items) c.args.self.now c.self.view_is c.args.map
    c.requires in
    let none : c.from_residual.result ≡ None = search rules in
    none ∙ sym (lookup-absent i.next i.maps (serials_in i.serials.items) c.args.map c.self.invariant.2 known.0
    c.args.key.now (sym c.in_err-place.ensures.place))
    ∙ ap (λ (l : Live). option_map (λ v. v.serial)
    (at_key c.args.key.now (content_at l c.args.map))) c.self.view_is
