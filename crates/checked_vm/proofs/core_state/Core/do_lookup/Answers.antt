use Rattle.checked_vm.proofs.Common.{◌≡◌, ◌+◌, ◌≤◌, length, take, Ok, sym, ap, ◌∙◌, FitsSigned, w64, rules, arith, to_z-of_z, length-take-le, max_key_size, State, go_to, Next, at_key, answered, Live, content_at, KeyFits-most, state_of, helped_on}
use Rattle.isa_model.specs.Machine.MapHelpers.{pointer_or_zero}
use Rattle.checked_vm.proofs.Helpers.{looks_up, found_key, no_key}
use Rattle.checked_vm.proofs.core_state.Core.do_lookup.Goals.{in-Some, in-None}
use Rattle.checked_vm.proofs.core_state.Core.do_lookup.Goals as goal

pub returns-clause-done : goal.returns-clause-done
returns-clause-done c = λ p rows.
    let core = c.args.self.now in
    let packet = c.args.packet.now in
    let s : State = state_of core packet in
    let index = c.in_ok-index.index in
    let row = c.in_ok-index.row in
    let key = c.read_argument.new.bytes in
    let short : row.key_size ≤ max_key_size =
    KeyFits-most row.kind row.key_size c.in_ok-index.ensures.fits.key in
    let fits : FitsSigned w64 c.in_ok-region.offset = search rules in
    let size : length (take c.from.result c.key_room-key.result) ≡ row.key_size =
    length-take-le c.from.result c.key_room-key.result
    (omega (arith, short, c.from.ensures, c.key_room-key.ensures)) ∙ c.from.ensures in
    let map_is = c.in_ok-index.ensures.argument p rows in
    let read = simp to_z-of_z at c.in_ok-read_argument.ensures.read in
    let answer_is : pointer_or_zero index (at_key key (content_at core.maps index))
    ≡ c.match-lookup.answer = elim c.match-lookup.branch [
      | in-Some w ↦
          found_key index (at_key key (content_at core.maps index)) _
          (sym w.in-Some.is ∙ c.lookup.ensures.serial) ∙ sym w.answer-is
      | in-None w ↦
          no_key index (at_key key (content_at core.maps index))
          (sym w.in-None.is ∙ c.lookup.ensures.serial) ∙ sym w.answer-is
    ] in
    ap (helped_on s)
    (looks_up p s (record { index = index; row = row })
    (record { region = c.in_ok-region.region; offset = c.in_ok-region.offset }) _ key
    (rw c.value.ensures at map_is) (rw c.value-2.ensures at c.in_ok-region.ensures) size read
    ∙ ap (λ v. Ok (record { answer = v; state = s })) answer_is)
    ∙ ap (λ (maps : Live). Next
    (go_to (answered
    (record {
      answer = c.match-lookup.answer;
      state = state_of
          (record core { maps = maps }) packet;
    })) (core.slot + 1)))
    (sym c.lookup.ensures.same)
    ∙ ap Next (sym (c.answer.ensures.state packet))
