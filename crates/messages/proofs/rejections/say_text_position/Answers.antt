use Rattle.messages.proofs.Common.{◌++◌, ℕ, List, codes, decimal, ap, on_err}
use Rattle.messages.proofs.Written.{first_failed, err_text, err_behind}
use Rattle.messages.proofs.rejections.say_text_position.Goals as goal

pub returns-in_err-write_texts-clause-err : goal.returns-in_err-write_texts-clause-err
returns-in_err-write_texts-clause-err g c =
    on_err _ _
    (first_failed _ _ (codes "line " ++ (decimal c.args.line ++ codes " "))
    (codes "column " ++ (decimal c.args.column ++ codes "\n")) _
    (ap (λ (l : List ℕ). codes "line " ++ (l ++ codes " ")) c.format.ensures.text)
    c.in_err-write_texts.ensures.err)

pub returns-clause-err : goal.returns-clause-err
returns-clause-err g c =
    err_behind _ _ _ _ (codes "line " ++ (decimal c.args.line ++ codes " "))
    (codes "column " ++ (decimal c.args.column ++ codes "\n")) _
    (ap (λ (l : List ℕ). codes "line " ++ (l ++ codes " ")) c.format.ensures.text)
    c.in_ok-write_texts.ensures.ok
    (err_text _ _ _ _ (codes "column " ++ (decimal c.args.column ++ codes "\n"))
    (ap (λ (l : List ℕ). codes "column " ++ (l ++ codes "\n")) c.format-2.ensures.text)
    c.write_texts-2.ensures.err)
