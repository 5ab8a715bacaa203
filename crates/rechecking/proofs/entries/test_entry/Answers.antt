use Rattle.rechecking.proofs.Common.{length, entry_at}
use Rattle.rechecking.proofs.entries.test_entry.Goals as goal

pub returns-in-Ok-clause-known : goal.returns-in-Ok-clause-known
returns-in-Ok-clause-known c =
    let p = c.args.image.now in
    c.swapped.ensures.known p
    (entry_at p c.test_read_entry-in-Second.new.growing.table)
    c.test_read_entry-in-Second.new.state c.test_read_entry-in-Second.new.room
    c.in-Ok.ensures.known

pub returns-in-Ok-clause-spelled : goal.returns-in-Ok-clause-spelled
returns-in-Ok-clause-spelled c =
    c.swapped.ensures.spelled (length c.args.image.now.maps)
    c.test_read_entry-in-Second.new.bytes c.test_read_entry-in-Second.new.state
    c.test_read_entry-in-Second.new.room c.in-Ok.ensures.spelled

pub test_read_entry-requires-in_default-clause-spelled :
    goal.test_read_entry-requires-in_default-clause-spelled
test_read_entry-requires-in_default-clause-spelled c =
    c.forget.ensures (length c.args.image.now.maps) c.read.new.state
