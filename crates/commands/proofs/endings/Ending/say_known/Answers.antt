use Rattle.commands.proofs.Common.{refl, string_bytes, message_of, ok_text, err_text, ok_behind, err_behind}
use Rattle.commands.proofs.endings.Ending.say_known.Goals as goal

pub returns-in-Some-clause-err : goal.returns-in-Some-clause-err
returns-in-Some-clause-err g c =
    rw c.in-Some.is
    (err_behind _ _ _ _ (message_of c.args.self.now.outcome)
    (string_bytes c.in-Some.why) _ refl c.in_ok-say.ensures.ok
    (err_text _ _ _ _
    (string_bytes c.in-Some.why) c.as_bytes.ensures.value c.write_bytes.ensures.err))

pub returns-in-Some-clause-ok : goal.returns-in-Some-clause-ok
returns-in-Some-clause-ok g c =
    rw c.in-Some.is
    (ok_behind _ _ _ _ (message_of c.args.self.now.outcome)
    (string_bytes c.in-Some.why) _ refl c.in_ok-say.ensures.ok
    (ok_text _ _ _ _
    (string_bytes c.in-Some.why) c.as_bytes.ensures.value c.write_bytes.ensures.ok))
