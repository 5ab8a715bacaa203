use Rattle.table_entries.proofs.Common.{◌∙◌, length, err_from_is_err_and, lt-ltb, frame_in}
use Rattle.table_entries.proofs.Seen.{seen-frame}
use Rattle.table_entries.proofs.passing.pass_frame.Goals as goal

pub returns-then-bytes-lt2 : goal.returns-then-bytes-lt2
unfolding frame_in
returns-then-bytes-lt2 c = rw (lt-ltb (length c.args.bytes.now) 2 c.if-bytes-lt2.true)

pub returns-in_err-kinds : goal.returns-in_err-kinds
returns-in_err-kinds c =
    let p = err_from_is_err_and c.from_residual.result c.from_residual.ensures.1 in
    rw (
      p.1,
      p.2,
      seen-frame c.args.rows c.args.holder c.args.bytes.now c.if-bytes-lt2.false,
      ←
          c.skip.ensures,
      c.in_err-kinds.ensures,
    )

pub returns-in_err-stack_slots : goal.returns-in_err-stack_slots
returns-in_err-stack_slots c =
    let p =
    err_from_is_err_and c.from_residual-in_err-stack_slots.result
    c.from_residual-in_err-stack_slots.ensures.1 in
    rw (
      p.1,
      p.2,
      seen-frame c.args.rows c.args.holder c.args.bytes.now c.if-bytes-lt2.false,
      ←
          c.skip.ensures,
      c.in_ok-kinds.ensures,
      c.in_err-stack_slots.ensures,
    )

pub returns : goal.returns
returns c =
    rw (c.both-2.ensures, c.both.ensures, c.returns_right-fits.ensures, c.u16_at.ensures)
    (seen-frame c.args.rows c.args.holder c.args.bytes.now c.if-bytes-lt2.false
    ∙ rw (← c.skip.ensures, c.in_ok-kinds.ensures, c.in_ok-stack_slots.ensures))
