use Rattle.commands.proofs.Common.{usage, err_text, err_behind}
use Rattle.commands.proofs.outcomes.TaskOutcome.say.Goals as goal

pub returns-in_ok-write_bytes-in-WrongWords-clause-err : goal.returns-in_ok-write_bytes-in-WrongWords-clause-err
returns-in_ok-write_bytes-in-WrongWords-clause-err g c =
    rw c.in-WrongWords.is
    (err_behind _ _ _ _ c.in-WrongWords.text.now usage _ c.as_bytes.ensures.value
    c.in_ok-write_bytes-in-WrongWords.ensures.ok
    (err_text _ _ _ _ usage c.as_bytes-in-WrongWords.ensures.value
    c.write_bytes-in-WrongWords.ensures.err))

pub returns-in-CannotRead-clause-ok : goal.returns-in-CannotRead-clause-ok
returns-in-CannotRead-clause-ok g c = rw c.in-CannotRead.is c.say_unread.ensures.ok

pub returns-in-CannotRead-clause-err : goal.returns-in-CannotRead-clause-err
returns-in-CannotRead-clause-err g c = rw c.in-CannotRead.is c.say_unread.ensures.err

pub returns-in-CannotWrite-clause-ok : goal.returns-in-CannotWrite-clause-ok
returns-in-CannotWrite-clause-ok g c = rw c.in-CannotWrite.is c.say_failed_write.ensures.ok

pub returns-in-CannotWrite-clause-err : goal.returns-in-CannotWrite-clause-err
returns-in-CannotWrite-clause-err g c = rw c.in-CannotWrite.is c.say_failed_write.ensures.err

pub returns-in-Refused-clause-ok : goal.returns-in-Refused-clause-ok
returns-in-Refused-clause-ok g c = rw c.in-Refused.is c.say.ensures.ok

pub returns-in-Refused-clause-err : goal.returns-in-Refused-clause-err
returns-in-Refused-clause-err g c = rw c.in-Refused.is c.say.ensures.err

pub returns-in-Faulted-clause-ok : goal.returns-in-Faulted-clause-ok
returns-in-Faulted-clause-ok g c = rw c.in-Faulted.is c.say_fault.ensures.ok

pub returns-in-Faulted-clause-err : goal.returns-in-Faulted-clause-err
returns-in-Faulted-clause-err g c = rw c.in-Faulted.is c.say_fault.ensures.err

pub returns-in-CannotReplace-clause-ok : goal.returns-in-CannotReplace-clause-ok
returns-in-CannotReplace-clause-ok g c = rw c.in-CannotReplace.is c.say_conflict.ensures.ok

pub returns-in-CannotReplace-clause-err : goal.returns-in-CannotReplace-clause-err
returns-in-CannotReplace-clause-err g c = rw c.in-CannotReplace.is c.say_conflict.ensures.err
