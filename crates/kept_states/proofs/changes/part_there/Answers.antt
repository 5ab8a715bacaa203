use Rattle.std.proofs.Common.{◌∙◌, get_or, ap}
use Rattle.kept_states.proofs.ChangeLaws.{register_back, slot_back}
use Rattle.kept_states.proofs.changes.part_there.Goals as goal

pub returns-in-Some : goal.returns-in-Some
returns-in-Some c =
    let known = c.in-Some.known.now in
    register_back c.args.frame.now c.args.part.now c.in-InRegister.number _ known
    c.in-InRegister.is
    (c.in-Some.ensures.lookup.1
    ∙ ap (λ n. get_or c.args.frame.now.registers n known) c.from.ensures)

pub returns-in-Some-get : goal.returns-in-Some-get
returns-in-Some-get c =
    let known = c.in-Some-get.known.now in
    slot_back c.args.frame.now c.args.part.now c.in-InSlot.index _ known c.in-InSlot.is
    (c.in-Some-get.ensures.lookup.1
    ∙ ap (λ n. get_or c.slots.result.now n known) c.from-in-InSlot.ensures
    ∙ ap (λ ts. get_or ts c.in-InSlot.index known) c.slots.ensures)
