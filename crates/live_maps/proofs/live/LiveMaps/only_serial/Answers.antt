use Rattle.std.proofs.Common.{◌≡◌, ◌∙◌, sym, ap, subst, ℕ, Option, unwrap_or, arith, IsSomeAnd, slice_get}
use Rattle.live_maps.proofs.Common.{MapDef, Array, serials_in, Live, content_at}
use Rattle.isa_model.specs.Machine.Steps.{one_serial}
use Rattle.live_maps.proofs.ContentLaws.{rows_of-known}
use Rattle.live_maps.proofs.LookUpLaws.{only-present}
use Rattle.live_maps.proofs.live.LiveMaps.only_serial.Goals as goal

pub serial_at-requires-clause-index : goal.serial_at-requires-clause-index
serial_at-requires-clause-index c =
    let i = c.self.inside in
    let P : MapDef → Type 0 = λ row. (row.kind ≡ Array) × (row.entries ≡ 1) in
    let known =
    rows_of-known P i.maps c.args.map
    (subst (λ (l : Live). IsSomeAnd (slice_get l.rows c.args.map) P)
    (sym c.self.view_is) c.requires) in
    let inside = known.0 in
    let long = c.self.invariant.3.long in
    let items = i.serials.ok.0 in
    omega arith

pub serial_at-requires-clause-distinct : goal.serial_at-requires-clause-distinct
serial_at-requires-clause-distinct c =
    let i = c.self.inside in
    let P : MapDef → Type 0 = λ row. (row.kind ≡ Array) × (row.entries ≡ 1) in
    let known =
    rows_of-known P i.maps c.args.map
    (subst (λ (l : Live). IsSomeAnd (slice_get l.rows c.args.map) P)
    (sym c.self.view_is) c.requires) in
    (c.self.invariant.3.each c.args.map known.0).distinct

pub serial_at-requires-clause-place : goal.serial_at-requires-clause-place
serial_at-requires-clause-place c =
    let i = c.self.inside in
    let P : MapDef → Type 0 = λ row. (row.kind ≡ Array) × (row.entries ≡ 1) in
    let known =
    rows_of-known P i.maps c.args.map
    (subst (λ (l : Live). IsSomeAnd (slice_get l.rows c.args.map) P)
    (sym c.self.view_is) c.requires) in
    (only-present i.next i.maps (serials_in i.serials.items) c.args.map c.self.invariant.2 known.0 known.1.0
    known.1.1).0

pub returns : goal.returns
returns c =
    let i = c.self.inside in
    let P : MapDef → Type 0 = λ row. (row.kind ≡ Array) × (row.entries ≡ 1) in
    let known =
    rows_of-known P i.maps c.args.map
    (subst (λ (l : Live). IsSomeAnd (slice_get l.rows c.args.map) P)
    (sym c.self.view_is) c.requires) in
    let r =
    only-present i.next i.maps (serials_in i.serials.items) c.args.map c.self.invariant.2 known.0 known.1.0
    known.1.1 in
    c.unwrap_or.ensures ∙ ap (λ (o : Option ℕ). unwrap_or o 0) c.serial_at.ensures ∙ r.1
    ∙ ap (λ (l : Live). one_serial (content_at l c.args.map)) c.self.view_is
