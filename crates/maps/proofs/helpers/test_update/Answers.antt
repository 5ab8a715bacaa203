use Rattle.maps.proofs.Common.{ap, MapDef}
use Rattle.maps.proofs.UpdateLaws.{answer_found}
use Rattle.maps.proofs.helpers.test_update.Goals as goal

pub returns-clause-answer : goal.returns-clause-answer
returns-clause-answer g c =
    let s = c.args.store.now in
    answer_found (g.S.MapStore.row_of s) (g.S.MapStore.places s) (g.S.MapStore.block s)
    c.args.key.now
    c.row.result.kind c.find-found.result c.is_some.result c.is_full.result c.args.flags
    c.update_answer_by-answer.result (ap (λ (r : MapDef). r.kind) c.row.ensures)
    c.find-found.ensures c.is_some.ensures c.is_full.ensures c.update_answer_by-answer.ensures
