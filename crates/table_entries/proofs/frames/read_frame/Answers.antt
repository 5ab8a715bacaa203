use Rattle.std.proofs.Common.{arith}
use Rattle.table_entries.proofs.Parts.{frame_in-read}
use Rattle.table_entries.proofs.frames.read_frame.Goals as goal

pub returns : goal.returns
returns c =
    rw (
      c.both-2.ensures,
      c.both.ensures,
      c.frame_allowed-fits.ensures,
      c.from-frame.ensures,
      c.u16_at.ensures,
    )
    (frame_in-read c.args.rows c.args.holder c.args.outer c.args.bytes.now c.in_ok-kinds.kinds
    c.read_registers.new.registers c.in_ok-kinds.rest.now
    c.in_ok-stack_slots.stack_slots c.read_stack_slots.new.stack.slots c.in_ok-stack_slots.rest.now
    (omega arith)
    (rw (← c.skip.ensures) c.in_ok-kinds.ensures) c.in_ok-stack_slots.ensures)
