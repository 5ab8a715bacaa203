use Rattle.messages.proofs.Common.{◌++◌, codes, refl, decimal, on_err, hint_line}
use Rattle.messages.proofs.Written.{first_failed, ok_behind, err_behind}
use Rattle.messages.proofs.rejections.say_with_hint.Goals as goal

pub returns-in_err-say_index-clause-err : goal.returns-in_err-say_index-clause-err
returns-in_err-say_index-clause-err g c =
    on_err _ _ (first_failed _ _ (c.args.unit.now ++ (decimal c.args.index ++ codes "\n"))
    (hint_line c.args.error) _ refl c.in_err-say_index.ensures.err)

pub returns-clause-ok : goal.returns-clause-ok
returns-clause-ok g c =
    ok_behind _ _ _ _ (c.args.unit.now ++ (decimal c.args.index ++ codes "\n"))
    (hint_line c.args.error) _ refl c.in_ok-say_index.ensures.ok c.say_hint.ensures.ok

pub returns-clause-err : goal.returns-clause-err
returns-clause-err g c =
    err_behind _ _ _ _ (c.args.unit.now ++ (decimal c.args.index ++ codes "\n"))
    (hint_line c.args.error) _ refl c.in_ok-say_index.ensures.ok c.say_hint.ensures.err
