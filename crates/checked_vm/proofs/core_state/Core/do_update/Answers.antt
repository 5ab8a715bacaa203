use Rattle.checked_vm.proofs.Common.{◌≡◌, ◌≤◌, length, take, Ok, sym, ap, ◌∙◌, FitsSigned, w64, rules, arith, to_z-of_z, length-take-le, max_key_size, max_value_size, State, Next, update_answer, content_at, KeyFits-most, state_of, helped_on}
use Rattle.checked_vm.proofs.Helpers.{updates, updated}
use Rattle.checked_vm.proofs.core_state.Core.do_update.Goals as goal

pub returns-clause-done : goal.returns-clause-done
returns-clause-done c = λ p rows.
    let core = c.args.self.now in
    let packet = c.args.packet.now in
    let s : State = state_of core packet in
    let index = c.in_ok-index.index in
    let row = c.in_ok-index.row in
    let key = c.read_argument.new.bytes in
    let bytes = c.read_argument-2.new.bytes in
    let flags = c.in_ok-flags.flags in
    let short : row.key_size ≤ max_key_size =
    KeyFits-most row.kind row.key_size c.in_ok-index.ensures.fits.key in
    let short_value : row.value_size ≤ max_value_size = c.in_ok-index.ensures.fits.short_value in
    let fits : FitsSigned w64 c.in_ok-region.offset = search rules in
    let value_fits : FitsSigned w64 c.in_ok-value_region.value_offset = search rules in
    let size : length (take c.from.result c.key_room-key.result) ≡ row.key_size =
    length-take-le c.from.result c.key_room-key.result
    (omega (arith, short, c.from.ensures, c.key_room-key.ensures)) ∙ c.from.ensures in
    let value_size : length (take row.value_size c.map_value_room-map_value.result)
    ≡ row.value_size =
    length-take-le row.value_size c.map_value_room-map_value.result
    (omega (arith, short_value, c.map_value_room-map_value.ensures)) in
    let map_is = c.in_ok-index.ensures.argument p rows in
    let read = simp to_z-of_z at c.in_ok-read_argument.ensures.read in
    let read_value = simp to_z-of_z at c.in_ok-read_argument-2.ensures.read in
    let answer_is : c.update-answer.result
    ≡ update_answer row (content_at core.maps index) key flags =
    rw c.in_ok-index.ensures.row at c.update-answer.ensures.answer in
    ap (helped_on s)
    (updates p s (record { index = index; row = row })
    (record { region = c.in_ok-region.region; offset = c.in_ok-region.offset })
    (record {
      region = c.in_ok-value_region.value_region;
      offset = c.in_ok-value_region.value_offset;
    }) flags _ _ key bytes
    (rw c.value.ensures at map_is) (rw c.value-2.ensures at c.in_ok-region.ensures)
    (rw c.value-3.ensures at c.in_ok-value_region.ensures)
    (sym (rw c.value-4.ensures at c.in_ok-flags.ensures)) size read value_size read_value
    ∙ ap Ok (updated core packet row index key bytes flags c.update-answer.result
    c.update-answer.new.self answer_is c.update-answer.ensures.updated))
    ∙ ap Next (sym (c.answer.ensures.state packet))

pub returns-in_err-read_argument-clause-done : goal.returns-in_err-read_argument-clause-done
returns-in_err-read_argument-clause-done c = search rules
