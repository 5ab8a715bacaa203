use Rattle.messages.proofs.Common.{◌++◌, ℕ, List, codes, ap, unwritten_text, shown_name}
use Rattle.messages.proofs.Written.{ok_text, err_text}
use Rattle.messages.proofs.causes.say_failed_write.Goals as goal

pub returns-clause-ok : goal.returns-clause-ok
returns-clause-ok g c =
    ok_text _ _ _ _ (unwritten_text c.args.name.now c.args.cause)
    (ap (λ (l : List ℕ). codes "cannot write " ++ (shown_name c.args.name.now ++ l))
    c.line_after.ensures) c.write_named.ensures.ok

pub returns-clause-err : goal.returns-clause-err
returns-clause-err g c =
    err_text _ _ _ _ (unwritten_text c.args.name.now c.args.cause)
    (ap (λ (l : List ℕ). codes "cannot write " ++ (shown_name c.args.name.now ++ l))
    c.line_after.ensures) c.write_named.ensures.err
