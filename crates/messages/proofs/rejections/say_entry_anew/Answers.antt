use Rattle.messages.proofs.Common.{◌++◌, ℕ, List, codes, ap, anew, entry_anew}
use Rattle.messages.proofs.Written.{err_text}
use Rattle.messages.proofs.rejections.say_entry_anew.Goals as goal

pub returns-clause-err : goal.returns-clause-err
returns-clause-err g c =
    err_text _ _ _ _ (entry_anew c.args.index)
    (ap (λ (l : List ℕ). codes "entry " ++ (l ++ (codes "\n" ++ anew))) c.format.ensures.text)
    c.write_texts.ensures.err
