use Rattle.messages.proofs.Common.{◌++◌, ℕ, List, codes, ap, on_err, sentence_of, position_of}
use Rattle.messages.proofs.Written.{first_failed, ok_behind, err_behind}
use Rattle.messages.proofs.rejections.Rejection.say.Goals as goal

pub returns-in_err-write_texts-clause-err : goal.returns-in_err-write_texts-clause-err
returns-in_err-write_texts-clause-err g c =
    on_err _ _ (first_failed _ _ (sentence_of c.args.self ++ codes "\n") (position_of c.args.self) _
    (ap (λ (l : List ℕ). l ++ codes "\n") c.sentence.ensures) c.in_err-write_texts.ensures.err)

pub returns-clause-ok : goal.returns-clause-ok
returns-clause-ok g c =
    ok_behind _ _ _ _ (sentence_of c.args.self ++ codes "\n") (position_of c.args.self) _
    (ap (λ (l : List ℕ). l ++ codes "\n") c.sentence.ensures) c.in_ok-write_texts.ensures.ok
    c.say_position.ensures.ok

pub returns-clause-err : goal.returns-clause-err
returns-clause-err g c =
    err_behind _ _ _ _ (sentence_of c.args.self ++ codes "\n") (position_of c.args.self) _
    (ap (λ (l : List ℕ). l ++ codes "\n") c.sentence.ensures) c.in_ok-write_texts.ensures.ok
    c.say_position.ensures.err
