use Rattle.image.proofs.Common.{◌≡◌, ◌*◌, ◌+◌, ◌-◌, ◌/◌, List, Option, None, Result, Ok, Err, length, take, drop, false, sym, ap, ◌∙◌, subst, arith, All, ◌⊎◌, err_from_is_err_and, MapDef, Insn, IsRow, ImageError, Memory, room_refusal, code_from}
use Rattle.image.proofs.RowSpelling.{rows_from-fit}
use Rattle.image.proofs.Whole.{sizes, rows_from-slice, code_read-slice, program_read-code, code_fails}
use Rattle.image.proofs.images.parts_of.Goals as goal

pub map_count-count-requires : goal.map_count-count-requires
map_count-count-requires c = (sizes c.args.bytes.now c.requires).long

pub slice_bounds-rows_of-start : goal.slice_bounds-rows_of-start
slice_bounds-rows_of-start c =
    let long = (sizes c.args.bytes.now c.requires).long in
    omega arith

pub slice_bounds-code_of-start : goal.slice_bounds-code_of-start
slice_bounds-code_of-start c =
    let whole = (sizes c.args.bytes.now c.requires).whole in
    omega (arith, c.map_count-count.ensures)

pub room_refusal-requires-clause-fit : goal.room_refusal-requires-clause-fit
room_refusal-requires-clause-fit c =
    subst (λ (l : List MapDef). All IsRow l) (sym c.deref.ensures.value)
    (rows_from-fit c.map_count-count.result 0 _ c.in_ok-maps.maps.items c.in_ok-maps.ensures).1

pub room_refusal-requires-clause-few : goal.room_refusal-requires-clause-few
room_refusal-requires-clause-few c =
    let s = sizes c.args.bytes.now c.requires in
    let rows =
    rows_from-fit c.map_count-count.result 0 _ c.in_ok-maps.maps.items c.in_ok-maps.ensures in
    let same : length c.deref.result.now ≡ length c.in_ok-maps.maps.items =
    ap (λ (l : List MapDef). length l) c.deref.ensures.value in
    omega (arith, same, rows.0, c.map_count-count.ensures, s.maps)

pub returns-in_err-slots : goal.returns-in_err-slots
returns-in_err-slots c =
    let bytes = c.args.bytes.now in
    let rows = c.in_ok-maps.maps.items in
    let error = c.in_err-slots.field-0.0 in
    let s = sizes bytes c.requires in
    let read = sym (rows_from-slice bytes c.map_count-count.result c.map_count-count.ensures)
    ∙ c.in_ok-maps.ensures in
    let room = subst (λ (l : List MapDef). room_refusal l ≡ None) c.deref.ensures.value
    (sym c.in_default.ensures) in
    let slice = take (length bytes - (8 + 12 * c.map_count-count.result))
    (drop (8 + 12 * c.map_count-count.result) bytes) in
    let on_rows = subst
    (λ (l : List MapDef). (error ≡ Memory)
    ⊎ (code_from l (length slice / 8) false 0 slice ≡ Err error)) c.deref-2.ensures.value
    c.in_err-slots.ensures in
    let code = subst
    (λ (r : Result (List (Option Insn)) ImageError). (error ≡ Memory) ⊎ (r ≡ Err error))
    (code_read-slice bytes c.map_count-count.result rows s c.map_count-count.ensures) on_rows in
    let p = err_from_is_err_and c.from_residual-in_err-slots.result
    c.from_residual-in_err-slots.ensures.1 in
    rw (p.1, p.2) (code_fails bytes rows error read room code)

pub returns : goal.returns
returns c =
    let bytes = c.args.bytes.now in
    let rows = c.in_ok-maps.maps.items in
    let s = sizes bytes c.requires in
    let read = sym (rows_from-slice bytes c.map_count-count.result c.map_count-count.ensures)
    ∙ c.in_ok-maps.ensures in
    let room = subst (λ (l : List MapDef). room_refusal l ≡ None) c.deref.ensures.value
    (sym c.in_default.ensures) in
    let slice = take (length bytes - (8 + 12 * c.map_count-count.result))
    (drop (8 + 12 * c.map_count-count.result) bytes) in
    let on_rows = subst
    (λ (l : List MapDef). code_from l (length slice / 8) false 0 slice
    ≡ Ok c.in_ok-slots.slots.items) c.deref-2.ensures.value c.in_ok-slots.ensures in
    program_read-code bytes rows (Ok c.in_ok-slots.slots.items) read room
    (sym (code_read-slice bytes c.map_count-count.result rows s c.map_count-count.ensures)
    ∙ on_rows)
