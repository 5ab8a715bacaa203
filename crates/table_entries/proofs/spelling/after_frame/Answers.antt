use Rattle.std.proofs.Common.{◌≡◌, true, sym, ◌∙◌, refl, arith}
use Rattle.table_entries.proofs.Common.{little_number, frame_allowed}
use Rattle.table_entries.proofs.Parts.{frame_in-read}
use Rattle.table_entries.proofs.spelling.after_frame.Goals as goal

pub returns-then-frame_allowed : goal.returns-then-frame_allowed
returns-then-frame_allowed c =
    let bytes = c.args.bytes.now in
    let f = c.args.frame.now in
    let leads : little_number 2 bytes ≡ f.return_slot =
    sym c.u16_at.ensures ∙ sym c.from.ensures ∙ c.if-from-frame.false in
    let allowed : frame_allowed c.args.holder c.args.outer f.return_slot f.registers ≡ true =
    sym c.frame_allowed.ensures ∙ c.if-frame_allowed.true in
    frame_in-read c.args.rows c.args.holder c.args.outer bytes true f.registers
    c.in_ok-rest.rest.now true f.stack.slots c.in_ok-rest-2.rest.now (omega arith)
    (rw (← c.skip.ensures) c.in_ok-rest.ensures) (rw (← c.slots.ensures) c.in_ok-rest-2.ensures)
    ∙ rw (leads, allowed) refl
