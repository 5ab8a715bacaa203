use Rattle.messages.proofs.Common.{◌++◌, ℕ, List, codes, ap, refl, on_err, text_position}
use Rattle.map_texts.specs.Messages as map_texts
use Rattle.messages.proofs.Written.{first_failed, ok_behind, ok_text, err_text, err_behind}
use Rattle.messages.proofs.rejections.say_maps_position.Goals as goal

pub returns-in_err-say_text_position-clause-err : goal.returns-in_err-say_text_position-clause-err
returns-in_err-say_text_position-clause-err g c =
    on_err _ _
    (first_failed _ _ (text_position c.args.error.line c.args.error.column)
    (map_texts.hint_of c.args.error.kind ++ codes "\n") _ refl
    c.in_err-say_text_position.ensures.err)

pub returns-clause-ok : goal.returns-clause-ok
returns-clause-ok g c =
    ok_behind _ _ _ _ (text_position c.args.error.line c.args.error.column)
    (map_texts.hint_of c.args.error.kind ++ codes "\n") _ refl
    c.in_ok-say_text_position.ensures.ok
    (ok_text _ _ _ _ (map_texts.hint_of c.args.error.kind ++ codes "\n")
    (ap (λ (l : List ℕ). l ++ codes "\n") c.hint.ensures) c.write_texts.ensures.ok)

pub returns-clause-err : goal.returns-clause-err
returns-clause-err g c =
    err_behind _ _ _ _ (text_position c.args.error.line c.args.error.column)
    (map_texts.hint_of c.args.error.kind ++ codes "\n") _ refl
    c.in_ok-say_text_position.ensures.ok
    (err_text _ _ _ _ (map_texts.hint_of c.args.error.kind ++ codes "\n")
    (ap (λ (l : List ℕ). l ++ codes "\n") c.hint.ensures) c.write_texts.ensures.err)
