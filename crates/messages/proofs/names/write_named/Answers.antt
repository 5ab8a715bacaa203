use Rattle.messages.proofs.Common.{◌++◌, subst, refl, AppendsBeginning, on_err, shown_name}
use Rattle.messages.proofs.Written.{on_err_too, ok_text, ok_behind, first_failed, second_failed}
use Rattle.messages.proofs.names.write_named.Goals as goal

pub returns-in_err-write_name-clause-err : goal.returns-in_err-write_name-clause-err
returns-in_err-write_name-clause-err g c =
    on_err _ _
    (second_failed _ _ _ c.args.front.now
    (shown_name c.args.name.now ++ c.args.back.now) _ c.as_bytes.ensures.value
    c.in_ok-write_bytes.ensures.ok
    (first_failed _ _ (shown_name c.args.name.now) c.args.back.now _ refl
    c.in_err-write_name.ensures.err))

pub returns-clause-err : goal.returns-clause-err
returns-clause-err g c =
    on_err_too _ _ _
    (λ (failed : AppendsBeginning (g.W.Write.contents c.write_name.new.out)
    (g.W.Write.contents c.write_bytes-2.new.writer) c.as_bytes-2.result.now).
    second_failed _ _ _ c.args.front.now
    (shown_name c.args.name.now ++ c.args.back.now) _ c.as_bytes.ensures.value
    c.in_ok-write_bytes.ensures.ok
    (second_failed _ _ _ (shown_name c.args.name.now) c.args.back.now _ refl
    c.in_ok-write_name.ensures.ok
    (subst (AppendsBeginning _ _) c.as_bytes-2.ensures.value failed)))
    c.write_bytes-2.ensures.err

pub returns-clause-ok : goal.returns-clause-ok
returns-clause-ok g c =
    ok_behind _ _ _ _ c.args.front.now
    (shown_name c.args.name.now ++ c.args.back.now) _ c.as_bytes.ensures.value
    c.in_ok-write_bytes.ensures.ok
    (ok_behind _ _ _ _ (shown_name c.args.name.now) c.args.back.now _ refl
    c.in_ok-write_name.ensures.ok
    (ok_text _ _ _ _ c.args.back.now c.as_bytes-2.ensures.value c.write_bytes-2.ensures.ok))

pub returns-in_err-write_bytes-clause-err : goal.returns-in_err-write_bytes-clause-err
returns-in_err-write_bytes-clause-err g c =
    on_err _ _
    (first_failed _ _ c.args.front.now
    (shown_name c.args.name.now ++ c.args.back.now) _ c.as_bytes.ensures.value
    c.in_err-write_bytes.ensures.err)
