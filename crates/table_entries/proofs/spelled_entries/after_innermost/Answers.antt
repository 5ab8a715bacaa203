use Rattle.std.proofs.Common.{◌≡◌, true, false, sym, ◌∙◌, refl, arith}
use Rattle.table_entries.proofs.Common.{little_number, frame_allowed}
use Rattle.table_entries.proofs.Parts.{frame_in-read}
use Rattle.table_entries.proofs.spelled_entries.after_innermost.Goals as goal

pub returns-then-frame_allowed-clause-after : goal.returns-then-frame_allowed-clause-after
returns-then-frame_allowed-clause-after c =
    let bytes = c.args.bytes.now in
    let f = c.args.frame.now in
    let leads : little_number 2 bytes ≡ f.return_slot =
    sym c.u16_at.ensures ∙ sym c.from.ensures ∙ c.if-from-frame.false in
    let allowed : frame_allowed c.args.holder false f.return_slot f.registers ≡ true =
    sym c.frame_allowed.ensures ∙ c.if-frame_allowed.true in
    frame_in-read c.args.rows c.args.holder false bytes true f.registers
    c.in_ok-rest.rest.now true f.stack.slots c.in_ok-rest-2.rest.now (omega arith)
    (rw (← c.skip.ensures) c.in_ok-rest.ensures)
    (rw (← c.slots.ensures) c.in_ok-rest-2.ensures.after)
    ∙ rw (leads, allowed) refl
