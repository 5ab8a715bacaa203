-- A record of version 1 has no reason, so that the caller's reason is not written.
use Rattle.std.proofs.Common.{rules}
use Rattle.frames.proofs.Parts.{version_1_written, version_1_failed, version_2_written, version_2_failed}
use Rattle.frames.proofs.writer.write_record.Goals as goal

pub returns-in-One-clause-ok : goal.returns-in-One-clause-ok
returns-in-One-clause-ok g c =
    version_1_written _ _ _ _ _ _ (search rules) c.encode_head.ensures
    (search rules) _ _ _ c.write_parts.ensures.ok

pub returns-in-One-clause-err : goal.returns-in-One-clause-err
returns-in-One-clause-err g c =
    version_1_failed _ _ _ _ _ _ (search rules) c.encode_head.ensures
    (search rules) _ _ _ c.write_parts.ensures.err

pub returns-in-Two-clause-ok : goal.returns-in-Two-clause-ok
returns-in-Two-clause-ok g c =
    version_2_written _ _ _ _ _ _ c.in-Two.is c.encode_head2.ensures
    (search rules) _ _ _ c.write_parts-in-Two.ensures.ok

pub returns-in-Two-clause-err : goal.returns-in-Two-clause-err
returns-in-Two-clause-err g c =
    version_2_failed _ _ _ _ _ _ c.in-Two.is c.encode_head2.ensures
    (search rules) _ _ _ c.write_parts-in-Two.ensures.err
