use Rattle.table_entries.proofs.UnsetCallers.{unset_outer}
use Rattle.table_entries.proofs.passing.pass_other_caller.Goals as goal

pub returns-then-begins_unset : goal.returns-then-begins_unset
returns-then-begins_unset c =
    rw (unset_outer c.args.rows c.args.holder c.args.bytes.now
    (c.begins_unset.ensures c.if-begins_unset.true)) c.pass_frame.ensures
