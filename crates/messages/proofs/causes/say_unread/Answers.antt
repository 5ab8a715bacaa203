use Rattle.messages.proofs.Common.{◌++◌, ◌∙◌, ap, codes, List, ℕ, on_err, cause_line, shown_name, dash_line}
use Rattle.messages.proofs.Written.{ok_text, err_text, ok_behind, err_behind, first_failed}
use Rattle.messages.proofs.causes.say_unread.Goals as goal

pub returns-in_err-write_named-clause-err : goal.returns-in_err-write_named-clause-err
returns-in_err-write_named-clause-err g c =
    on_err _ _
    (first_failed _ _
    (codes "cannot read " ++ (shown_name c.args.path.now ++ cause_line c.args.kind))
    (dash_line c.args.path.now) _
    (ap (λ (l : List ℕ). codes "cannot read " ++ (shown_name c.args.path.now ++ l))
    c.cause_line.ensures) c.in_err-write_named.ensures.err)

pub returns-clause-err : goal.returns-clause-err
returns-clause-err g c =
    err_behind _ _ _ _
    (codes "cannot read " ++ (shown_name c.args.path.now ++ cause_line c.args.kind))
    (dash_line c.args.path.now) _
    (ap (λ (l : List ℕ). codes "cannot read " ++ (shown_name c.args.path.now ++ l))
    c.cause_line.ensures) c.in_ok-write_named.ensures.ok
    (err_text _ _ _ _ (dash_line c.args.path.now)
    (c.as_bytes.ensures.value ∙ c.dash_line.ensures) c.write_bytes.ensures.err)

pub returns-clause-ok : goal.returns-clause-ok
returns-clause-ok g c =
    ok_behind _ _ _ _
    (codes "cannot read " ++ (shown_name c.args.path.now ++ cause_line c.args.kind))
    (dash_line c.args.path.now) _
    (ap (λ (l : List ℕ). codes "cannot read " ++ (shown_name c.args.path.now ++ l))
    c.cause_line.ensures) c.in_ok-write_named.ensures.ok
    (ok_text _ _ _ _ (dash_line c.args.path.now)
    (c.as_bytes.ensures.value ∙ c.dash_line.ensures) c.write_bytes.ensures.ok)
