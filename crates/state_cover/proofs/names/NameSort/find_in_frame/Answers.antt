use Rattle.state_cover.proofs.Common.{List, ◌∙◌, ap, sym, zip, find-append, StackSlot, first_named, is_named, spilled_kinds}
use Rattle.state_cover.proofs.names.NameSort.find_in_frame.Goals as goal

pub returns-in-Some : goal.returns-in-Some
returns-in-Some c =
    let f = c.args.left.now in
    let g = c.args.right.now in
    let split = find-append (λ place. is_named c.args.self c.args.identity place.0)
    (zip f.registers g.registers)
    (zip (spilled_kinds f.stack.slots) (spilled_kinds g.stack.slots)) in
    sym (rw (← c.in-Some.ensures) at split)

pub returns : goal.returns
returns c =
    let f = c.args.left.now in
    let g = c.args.right.now in
    let split = find-append (λ place. is_named c.args.self c.args.identity place.0)
    (zip f.registers g.registers)
    (zip (spilled_kinds f.stack.slots) (spilled_kinds g.stack.slots)) in
    let named = λ (xs ys : List StackSlot). first_named c.args.self c.args.identity
    (zip (spilled_kinds xs) (spilled_kinds ys)) in
    c.find_in_slots.ensures
    ∙ ap (λ xs. named xs c.slots-2.result.now) c.slots.ensures
    ∙ ap (λ ys. named f.stack.slots ys) c.slots-2.ensures
    ∙ sym (rw (← c.in_default.ensures) at split)
