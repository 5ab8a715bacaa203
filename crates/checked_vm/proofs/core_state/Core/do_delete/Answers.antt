use Rattle.checked_vm.proofs.Common.{◌≡◌, ◌≤◌, length, take, Ok, sym, ap, ◌∙◌, FitsSigned, w64, rules, arith, to_z-of_z, length-take-le, max_key_size, State, Next, delete_answer, content_at, KeyFits-most, state_of, helped_on}
use Rattle.checked_vm.proofs.Helpers.{deletes, deleted}
use Rattle.checked_vm.proofs.core_state.Core.do_delete.Goals as goal

pub returns-clause-done : goal.returns-clause-done
returns-clause-done c = λ p rows.
    let core = c.args.self.now in
    let packet = c.args.packet.now in
    let s : State = state_of core packet in
    let index = c.in_ok-index.index in
    let row = c.in_ok-index.row in
    let key = c.read_argument.new.bytes in
    let short : row.key_size ≤ max_key_size =
    KeyFits-most row.kind row.key_size c.in_ok-index.ensures.fits.key in
    let fits : FitsSigned w64 c.in_ok-region.offset = search rules in
    let size : length (take c.from.result c.key_room-key.result) ≡ row.key_size =
    length-take-le c.from.result c.key_room-key.result
    (omega (arith, short, c.from.ensures, c.key_room-key.ensures)) ∙ c.from.ensures in
    let map_is = c.in_ok-index.ensures.argument p rows in
    let read = simp to_z-of_z at c.in_ok-read_argument.ensures.read in
    let answer_is : c.delete-answer.result ≡ delete_answer row (content_at core.maps index) key =
    rw c.in_ok-index.ensures.row at c.delete-answer.ensures.answer in
    ap (helped_on s)
    (deletes p s (record { index = index; row = row })
    (record { region = c.in_ok-region.region; offset = c.in_ok-region.offset }) _ key
    (rw c.value.ensures at map_is) (rw c.value-2.ensures at c.in_ok-region.ensures) size read
    ∙ ap Ok (deleted core packet row index key c.delete-answer.result c.delete-answer.new.self
    answer_is c.delete-answer.ensures.deleted))
    ∙ ap Next (sym (c.answer.ensures.state packet))
