use Rattle.std.proofs.Common.{rules, sym}
use Rattle.walks.proofs.LastJumps.{led_by_jump, led_by_next}
use Rattle.listeners.proofs.explaining.go_on.Goals as goal

pub returns-then-to-next : goal.returns-then-to-next
returns-then-to-next c = λ how a s.
    led_by_jump c.args.image.now a s c.in_ok-insn.insn.now c.args.from c.args.to
    c.args.way.now.items c.note.new.way.items
    (sym c.in_ok-insn.ensures) (search rules) c.note.ensures.room c.note.ensures.full

pub returns-else-to-next : goal.returns-else-to-next
returns-else-to-next c = λ how a s.
    led_by_next c.args.image.now a s c.in_ok-insn.insn.now c.args.from c.args.to
    c.args.way.now.items (sym c.in_ok-insn.ensures) (search rules)
