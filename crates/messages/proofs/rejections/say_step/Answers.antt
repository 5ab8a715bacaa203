use Rattle.messages.proofs.Common.{refl, on_err, entry_position, insn_position}
use Rattle.messages.proofs.Written.{err_behind}
use Rattle.messages.proofs.MessagesLaws.{step_failed}
use Rattle.messages.proofs.rejections.say_step.Goals as goal

pub returns-in_err-say_entry-clause-err : goal.returns-in_err-say_entry-clause-err
returns-in_err-say_entry-clause-err g c =
    on_err _ _ (step_failed _ _ c.args.index c.args.position c.in_err-say_entry.ensures.err)

pub returns-in-Some-clause-err : goal.returns-in-Some-clause-err
returns-in-Some-clause-err g c =
    rw c.in-Some.is
    (err_behind _ _ _ _ (entry_position c.args.index)
    (insn_position c.in-Some.slot c.in-Some.insn) _ refl c.in_ok-say_entry.ensures.ok
    c.say_insn.ensures.err)
