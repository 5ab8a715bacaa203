use Rattle.std.proofs.Common.{rules, refl}
use Rattle.host.proofs.Pieces.{line_failed, frame_kept, frame_sent, record_failed}
use Rattle.host.proofs.engine.run_frame.Goals as goal

pub returns-in-Err-clause-writes : goal.returns-in-Err-clause-writes
returns-in-Err-clause-writes g c =
    line_failed _ _ _ _ _ c.run_packet-end.ensures.ends _ refl _ _ _ c.in-Err.ensures.err

pub returns-in-Err-write_record-clause-writes : goal.returns-in-Err-write_record-clause-writes
returns-in-Err-write_record-clause-writes g c =
    record_failed _ _ _ _ _ c.run_packet-end.ensures.ends _ refl _ c.run_packet-end.ensures.body _
    (search rules) (search rules) _ _ _ _ c.in-Ok.ensures.ok c.in-Err-write_record.ensures.err

pub returns-in-Ok-write_record-clause-writes : goal.returns-in-Ok-write_record-clause-writes
returns-in-Ok-write_record-clause-writes g c =
    frame_sent _ _ _ _ _ c.run_packet-end.ensures.ends _ refl _ c.run_packet-end.ensures.body _
    (search rules) (search rules) _ _ _ _ c.in-Ok.ensures.ok c.in-Ok-write_record.ensures.ok

pub returns-else-is_written-clause-writes : goal.returns-else-is_written-clause-writes
returns-else-is_written-clause-writes g c =
    frame_kept _ _ _ _ _ c.run_packet-end.ensures.ends _ refl _ _ _
    (search rules) c.in-Ok.ensures.ok
