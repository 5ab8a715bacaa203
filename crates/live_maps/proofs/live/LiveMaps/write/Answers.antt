use Rattle.live_maps.proofs.Common.{◌≡◌, ◌+◌, ◌≤◌, ◌∙◌, sym, ap, subst, length, List, ℕ, Option, arith, IsSomeAnd, vec_capacity, IsMap, map_at, serials_in, Live, AreLive, content_at, serials_at, value_bytes, with_value}
use Rattle.live_maps.proofs.ContentLaws.{live_of, length-changed_maps}
use Rattle.live_maps.proofs.LiveLaws.{live-written}
use Rattle.live_maps.proofs.LookUpLaws.{serials-once, serial_place-none, position-serial}
use Rattle.live_maps.proofs.OrderLaws.{AreOrdersOf-set}
use Rattle.live_maps.proofs.OneChanged.{Found, found_at, still_kept}
use Rattle.live_maps.proofs.live.LiveMaps.write.Goals as goal
use Rattle.live_maps.proofs.live.LiveMaps.write.Goals.{After-say_fits, In-Some}

-- the place of the serial
found : (c : In-Some) → Found c.self.inside.maps c.args.map c.in-Some.place
    (c.args.at + length c.args.bytes.now)
found c =
    let i = c.self.inside in
    found_at i.next i.maps (serials_in i.serials.items) c.args.self.now c.self.view_is c.args.map c.args.serial
    c.in-Some.place (c.args.at + length c.args.bytes.now)
    c.self.invariant.2 (sym c.find_serial.ensures ∙ c.in-Some.is) c.requires

-- the maps and their serials with the bytes written
written : (c : After-say_fits) → Found c.self.inside.maps c.args.map c.in-Some.place
    (c.args.at + length c.args.bytes.now)
    → AreLive c.self.inside.next c.write_value.new.self (serials_in c.self.inside.serials.items)
    × (live_of c.write_value.new.self (serials_in c.self.inside.serials.items) c.self.inside.next
    ≡ with_value (live_of c.self.inside.maps (serials_in c.self.inside.serials.items) c.self.inside.next)
    c.args.map c.args.serial c.args.at c.args.bytes.now)
written c f =
    let i = c.self.inside in
    let m = c.args.map in
    let new = c.write_value.new.self in
    let others = c.write_value.ensures.others in
    let count = length-changed_maps i.maps new m (map_at new m) others in
    let inside = f.inside in
    let is : IsMap (map_at new m) = c.say_fits.ensures m _ (omega arith) in
    live-written i.next i.maps (serials_in i.serials.items) m new f.inside c.self.invariant.2 others
    c.args.serial c.in-Some.place c.args.at c.args.bytes.now
    (position-serial c.args.serial c.in-Some.place (serials_at (serials_in i.serials.items) m)
    (sym c.find_serial.ensures ∙ c.in-Some.is)) f.fits is c.write_value.ensures.written

pub write_value-requires-clause-map : goal.write_value-requires-clause-map
write_value-requires-clause-map c = (found (goal.at.write_value-requires-clause-map
    c).In-Some).inside

pub write_value-requires-clause-place : goal.write_value-requires-clause-place
write_value-requires-clause-place c = (found (goal.at.write_value-requires-clause-place
    c).In-Some).place

pub write_value-requires-clause-within : goal.write_value-requires-clause-within
write_value-requires-clause-within c = (found (goal.at.write_value-requires-clause-within
    c).In-Some).fits

pub invariant_of-self : goal.invariant_of-self
invariant_of-self c =
    let at = goal.at.invariant_of-self c in
    let i = c.self.inside in
    let m = c.args.map in
    let f = found at.In-Some in
    let new = c.write_value.new.self in
    let others = c.write_value.ensures.others in
    let w = c.write_value.ensures.written in
    still_kept (vec_capacity i.serials) i.next i.next i.maps new i.serials.items i.serials.items m
    c.self.invariant others (written at.After-say_fits f).0
    (AreOrdersOf-set i.maps new i.serials.items m others f.inside w.row w.places c.self.invariant.3)

pub returns-in-Some : goal.returns-in-Some
returns-in-Some c =
    let at = goal.at.returns-in-Some c in
    (written at.After-say_fits (found at.In-Some)).1
    ∙ ap (λ (l : Live). with_value l c.args.map c.args.serial c.args.at c.args.bytes.now)
    c.self.view_is

pub returns-in-None : goal.returns-in-None
returns-in-None c =
    let i = c.self.inside in
    let Q : List ℕ → Type 0 = λ value. c.args.at + length c.args.bytes.now ≤ length value in
    let none = serial_place-none i.next i.maps (serials_in i.serials.items) c.args.map c.args.serial
    c.self.invariant.2 (sym c.find_serial.ensures ∙ c.in-None.is) in
    absurd (subst (λ (o : Option (List ℕ)). IsSomeAnd o Q) (sym (ap (λ (l : Live). value_bytes
    (content_at l c.args.map) c.args.serial) c.self.view_is) ∙ none) c.requires)

pub find_serial-requires-clause-once : goal.find_serial-requires-clause-once
find_serial-requires-clause-once c =
    let i = c.self.inside in
    serials-once i.next i.maps (serials_in i.serials.items) c.args.map c.args.serial c.self.invariant.2

pub find_serial-requires-clause-distinct : goal.find_serial-requires-clause-distinct
find_serial-requires-clause-distinct c = λ l.
    let long = c.self.invariant.3.long in
    let items = c.self.inside.serials.ok.0 in
    (c.self.invariant.3.each c.args.map (omega arith)).distinct

pub find_serial-requires-clause-within : goal.find_serial-requires-clause-within
find_serial-requires-clause-within c = λ l.
    let long = c.self.invariant.3.long in
    let items = c.self.inside.serials.ok.0 in
    (c.self.invariant.3.each c.args.map (omega arith)).within
