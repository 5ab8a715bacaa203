use Rattle.messages.proofs.Common.{◌++◌, ℕ, List, codes, refl, ap, step_position}
use Rattle.transfer.specs.Messages as transfer
use Rattle.messages.proofs.Written.{err_text, err_behind}
use Rattle.messages.proofs.rejections.say_table_position.Goals as goal

pub returns-in_ok-say_step-in-Step-clause-err : goal.returns-in_ok-say_step-in-Step-clause-err
returns-in_ok-say_step-in-Step-clause-err g c =
    rw c.in-Step.is
    (err_behind _ _ _ _ (step_position c.in-Step.index c.args.position)
    (transfer.sentence_of c.in-Step.refusal ++ codes "\n") _ refl
    c.in_ok-say_step-in-Step.ensures.ok
    (err_text _ _ _ _ (transfer.sentence_of c.in-Step.refusal ++ codes "\n")
    (ap (λ (l : List ℕ). l ++ codes "\n") c.sentence.ensures) c.write_texts.ensures.err))

pub returns-in-Successor-clause-ok : goal.returns-in-Successor-clause-ok
returns-in-Successor-clause-ok g c = rw c.in-Successor.is c.say_step-in-Successor.ensures.ok

pub returns-in-Successor-clause-err : goal.returns-in-Successor-clause-err
returns-in-Successor-clause-err g c = rw c.in-Successor.is c.say_step-in-Successor.ensures.err
