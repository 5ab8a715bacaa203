use Rattle.frames.proofs.Parts.{record_written, body_fails, head_fails}
use Rattle.frames.proofs.writer.write_frame2.Goals as goal

pub returns-clause-ok : goal.returns-clause-ok
returns-clause-ok g c =
    record_written _ _ _ _ _ c.args.body.now c.encode_head2.ensures _ c.in_ok-write_bytes.ensures.ok
    c.write_bytes-2.ensures.ok

pub returns-clause-err : goal.returns-clause-err
returns-clause-err g c =
    body_fails _ _ _ _ _ c.args.body.now c.encode_head2.ensures _ c.in_ok-write_bytes.ensures.ok
    c.write_bytes-2.ensures.err

pub returns-in_err-write_bytes-clause-err : goal.returns-in_err-write_bytes-clause-err
returns-in_err-write_bytes-clause-err g c =
    head_fails _ _ _ _ _ c.args.body.now c.encode_head2.ensures c.in_err-write_bytes.ensures.err
