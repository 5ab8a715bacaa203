use Rattle.std.proofs.Common.{refl}
use Rattle.host.proofs.Pieces.{skip_line_failed, skip_record_failed, skip_written}
use Rattle.host.proofs.engine.skip_frame.Goals as goal

pub returns-in-Err-clause-writes : goal.returns-in-Err-clause-writes
returns-in-Err-clause-writes g c =
    skip_line_failed _ _ _ _ refl _ _ _ c.in-Err.ensures.err

pub returns-in-Err-write_record-clause-writes : goal.returns-in-Err-write_record-clause-writes
returns-in-Err-write_record-clause-writes g c =
    skip_record_failed _ _ _ _ refl _ _ _ _ c.in-Ok.ensures.ok c.in-Err-write_record.ensures.err

pub returns-in-Ok-write_record-clause-writes : goal.returns-in-Ok-write_record-clause-writes
returns-in-Ok-write_record-clause-writes g c =
    skip_written _ _ _ _ refl _ _ _ _ c.in-Ok.ensures.ok c.in-Ok-write_record.ensures.ok
