use Rattle.kept_states.proofs.Common.{◌∙◌, set, ap, Written, InSlot}
use Rattle.kept_states.proofs.HeldLaws.{held_any, held_kept, held_none}
use Rattle.kept_states.proofs.held_places.see_slot.Goals as goal

pub returns-then-known : goal.returns-then-known
returns-then-known c =
    ap (λ ts. record c.args.frame.now { stack = record { slots = ts } }) (c.mark.ensures.set
    ∙ ap (λ n. set c.args.frame.now.stack.slots n (Written 255)) c.from.ensures)
    ∙ held_any c.args.frame.now c.args.known.0 c.args.known.1
    (InSlot c.args.index (Written 255)) (InSlot c.args.index c.args.slot.now) c.if-known.true

pub returns-then-known-2 : goal.returns-then-known-2
returns-then-known-2 c =
    ap (λ ts. record c.args.frame.now { stack = record { slots = ts } }) (c.set.ensures.set
    ∙ ap (λ n. set c.args.frame.now.stack.slots n c.args.slot.now) c.from-then-known-2.ensures)
    ∙ held_kept c.args.frame.now c.args.known.0 c.args.known.1
    (InSlot c.args.index (Written 255)) (InSlot c.args.index c.args.slot.now) c.if-known.false
    c.if-known-2.true

pub returns-else-known-2 : goal.returns-else-known-2
returns-else-known-2 c =
    held_none c.args.frame.now c.args.known.0 c.args.known.1
    (InSlot c.args.index (Written 255)) (InSlot c.args.index c.args.slot.now) c.if-known.false
    c.if-known-2.false
