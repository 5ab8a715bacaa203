use Rattle.std.proofs.Common.{sym}
use Rattle.messages.proofs.rejections.Rejection.say_code.Goals as goal

pub returns-clause-ok : goal.returns-clause-ok
returns-clause-ok g c = rw (sym c.code.ensures) c.write_texts.ensures.ok

pub returns-clause-err : goal.returns-clause-err
returns-clause-err g c = rw (sym c.code.ensures) c.write_texts.ensures.err
