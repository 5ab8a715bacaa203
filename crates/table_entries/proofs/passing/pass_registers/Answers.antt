use Rattle.table_entries.proofs.Common.{◌∙◌, ap, true, length, err_from_is_err_and, lt-ltb, frame_in, seen}
use Rattle.table_entries.proofs.Seen.{seen-caller, stop-caller}
use Rattle.table_entries.proofs.passing.pass_registers.Goals as goal

pub returns-then-bytes-lt2 : goal.returns-then-bytes-lt2
unfolding frame_in
returns-then-bytes-lt2 c = rw (lt-ltb (length c.args.bytes.now) 2 c.if-bytes-lt2.true)

pub returns-in_err-kinds : goal.returns-in_err-kinds
returns-in_err-kinds c =
    let p = err_from_is_err_and c.from_residual.result c.from_residual.ensures.1 in
    rw (p.1, p.2)
    (ap seen (stop-caller c.args.rows c.args.holder true c.args.bytes.now c.in_err-kinds.field-0.0
    c.if-bytes-lt2.false (rw (← c.skip.ensures) c.in_err-kinds.ensures)))

pub returns-in_err-stack_slots : goal.returns-in_err-stack_slots
returns-in_err-stack_slots c =
    let p =
    err_from_is_err_and c.from_residual-in_err-stack_slots.result
    c.from_residual-in_err-stack_slots.ensures.1 in
    rw (p.1, p.2)
    (seen-caller c.args.rows c.args.holder true c.args.bytes.now c.in_ok-kinds.kinds
    c.read_registers.new.registers c.in_ok-kinds.rest.now c.if-bytes-lt2.false
    (rw (← c.skip.ensures) c.in_ok-kinds.ensures) ∙ rw c.in_err-stack_slots.ensures)

pub returns : goal.returns
returns c =
    rw (
      c.both-2.ensures,
      c.both.ensures,
      c.frame_allowed-fits.ensures,
      c.from.ensures,
      c.u16_at.ensures,
    )
    (seen-caller c.args.rows c.args.holder true c.args.bytes.now c.in_ok-kinds.kinds
    c.read_registers.new.registers c.in_ok-kinds.rest.now c.if-bytes-lt2.false
    (rw (← c.skip.ensures) c.in_ok-kinds.ensures) ∙ rw c.in_ok-stack_slots.ensures)
