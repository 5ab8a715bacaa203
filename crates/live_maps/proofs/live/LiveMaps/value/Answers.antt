use Rattle.live_maps.proofs.Common.{◌∙◌, sym, ap, Some, arith, serials_in, Live, content_at, value_bytes}
use Rattle.live_maps.proofs.LookUpLaws.{serials-once, serial_place-none, serial_place-inside, serial_place-some}
use Rattle.live_maps.proofs.live.LiveMaps.value.Goals as goal

pub value-requires-clause-map : goal.value-requires-clause-map
value-requires-clause-map c =
    let i = c.self.inside in
    serial_place-inside i.next i.maps (serials_in i.serials.items) c.args.map c.args.serial c.self.invariant.2
    c.in-Some.place (sym c.find_serial.ensures ∙ c.in-Some.is)

pub value-requires-clause-place : goal.value-requires-clause-place
value-requires-clause-place c =
    let i = c.self.inside in
    (serial_place-some i.next i.maps (serials_in i.serials.items) c.args.map c.args.serial c.self.invariant.2
    c.in-Some.place (sym c.find_serial.ensures ∙ c.in-Some.is)).0

pub returns-in-Some : goal.returns-in-Some
returns-in-Some c =
    let i = c.self.inside in
    let r =
    serial_place-some i.next i.maps (serials_in i.serials.items) c.args.map c.args.serial c.self.invariant.2
    c.in-Some.place (sym c.find_serial.ensures ∙ c.in-Some.is) in
    ap Some c.value.ensures ∙ sym r.1
    ∙ ap (λ (l : Live). value_bytes (content_at l c.args.map) c.args.serial) c.self.view_is

pub returns-in-None : goal.returns-in-None
returns-in-None c =
    let i = c.self.inside in
    sym (serial_place-none i.next i.maps (serials_in i.serials.items) c.args.map c.args.serial c.self.invariant.2
    (sym c.find_serial.ensures ∙ c.in-None.is))
    ∙ ap (λ (l : Live). value_bytes (content_at l c.args.map) c.args.serial) c.self.view_is

pub find_serial-requires-clause-once : goal.find_serial-requires-clause-once
find_serial-requires-clause-once c =
    let i = c.self.inside in
    serials-once i.next i.maps (serials_in i.serials.items) c.args.map c.args.serial c.self.invariant.2

pub find_serial-requires-clause-distinct : goal.find_serial-requires-clause-distinct
find_serial-requires-clause-distinct c = λ l.
    let long = c.self.invariant.3.long in
    let items = c.self.inside.serials.ok.0 in
    (c.self.invariant.3.each c.args.map (omega arith)).distinct

pub find_serial-requires-clause-within : goal.find_serial-requires-clause-within
find_serial-requires-clause-within c = λ l.
    let long = c.self.invariant.3.long in
    let items = c.self.inside.serials.ok.0 in
    (c.self.invariant.3.each c.args.map (omega arith)).within
