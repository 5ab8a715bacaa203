use Rattle.checked_vm.proofs.Common.{Ok, map, sym, ap, ◌∙◌, length-map, Byte, Live, state_of}
use Rattle.checked_vm.proofs.Bytes.{write_map_value_part}
use Rattle.checked_vm.proofs.core_state.Core.write_map_value.Goals as goal

pub returns-clause-wrote : goal.returns-clause-wrote
returns-clause-wrote c = λ packet.
    let map_value = c.in-Some.map_value.now in
    let place = sym (c.in_ok-i.ensures.place (map Byte map_value) (length-map map_value Byte)) in
    write_map_value_part
    (state_of c.args.self.now packet) c.args.index c.args.serial c.args.at c.args.new.now map_value
    c.in_ok-i.i (sym c.in-Some.ensures) place
    ∙ ap (λ (maps : Live). Ok (state_of (record c.args.self.now { maps = maps }) packet))
    (sym c.write.ensures)
