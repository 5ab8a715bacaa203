use Rattle.kept_states.proofs.Common.{◌∙◌, InRegister}
use Rattle.kept_states.proofs.HeldLaws.{held_any, held_kept, held_none}
use Rattle.kept_states.proofs.held_places.see_register.Goals as goal

pub returns-then-known : goal.returns-then-known
returns-then-known c =
    c.write.ensures
    ∙ held_any c.args.frame.now c.args.known.0 c.args.known.1
    (InRegister c.args.number c.args.any.now) (InRegister c.args.number c.args.kind.now)
    c.if-known.true

pub returns-then-known-2 : goal.returns-then-known-2
returns-then-known-2 c =
    c.write-then-known-2.ensures
    ∙ held_kept c.args.frame.now c.args.known.0 c.args.known.1
    (InRegister c.args.number c.args.any.now) (InRegister c.args.number c.args.kind.now)
    c.if-known.false c.if-known-2.true

pub returns-else-known-2 : goal.returns-else-known-2
returns-else-known-2 c =
    held_none c.args.frame.now c.args.known.0 c.args.known.1
    (InRegister c.args.number c.args.any.now) (InRegister c.args.number c.args.kind.now)
    c.if-known.false c.if-known-2.false
