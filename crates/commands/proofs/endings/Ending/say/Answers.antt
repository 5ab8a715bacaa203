use Rattle.commands.proofs.Common.{ap, TaskOutcome, Refused, outcome_text, ok_behind, err_behind}
use Rattle.messages.specs.Messages.{code_line}
use Rattle.commands.proofs.endings.Ending.say.Goals as goal

pub returns-in-Refused-clause-err : goal.returns-in-Refused-clause-err
returns-in-Refused-clause-err g c =
    rw c.in-Refused.is
    (err_behind _ _ _ _ (outcome_text (Refused c.in-Refused.rejection) c.args.self.now.why)
    (code_line c.in-Refused.rejection) _
    (ap (λ (o : TaskOutcome). outcome_text o c.args.self.now.why) c.in-Refused.is)
    c.in_ok-say_known.ensures.ok c.say_code.ensures.err)

pub returns-in-Refused-clause-ok : goal.returns-in-Refused-clause-ok
returns-in-Refused-clause-ok g c =
    rw c.in-Refused.is
    (ok_behind _ _ _ _ (outcome_text (Refused c.in-Refused.rejection) c.args.self.now.why)
    (code_line c.in-Refused.rejection) _
    (ap (λ (o : TaskOutcome). outcome_text o c.args.self.now.why) c.in-Refused.is)
    c.in_ok-say_known.ensures.ok c.say_code.ensures.ok)
