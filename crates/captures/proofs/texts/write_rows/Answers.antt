use Rattle.captures.proofs.Common.{◌∙◌, ◌*◌, ap, arith, refl, subst, sym, Appends, Appends-nil, row_count, row_line}
use Rattle.captures.proofs.TextsLaws.{row-piece, rows-more, rows-part, rows_text-none}
use Rattle.captures.proofs.texts.write_rows.Goals as goal

pub rows-init : goal.rows-init
rows-init g c =
    let a = g.W.Write.contents c.args.out.now in
    subst (Appends a a) (sym (rows_text-none c.args.body.now)) (Appends-nil a)

pub returns-in_err-write_whole-clause-err : goal.returns-in_err-write_whole-clause-err
returns-in_err-write_whole-clause-err g c =
    let body = c.args.body.now in
    let k = c.rows.number in
    rows-part c.from_residual.result _ _ _ body _ k (row_count body)
    (omega (arith, c.rows-test.true)) c.rows.invariant c.in_err-write_whole.ensures.err
    (c.spell_row-size.ensures.front
    ∙ ap (row_line (16 * k)) (row-piece body _ (16 * k) c.min.result refl c.min.ensures))

pub rows-preserved : goal.rows-preserved
rows-preserved g c =
    let body = c.args.body.now in
    let k = c.rows.number in
    rows-more _ _ _ body _ k c.rows.invariant c.in_ok-write_whole.ensures.ok
    (c.spell_row-size.ensures.front
    ∙ ap (row_line (16 * k)) (row-piece body _ (16 * k) c.min.result refl c.min.ensures))
