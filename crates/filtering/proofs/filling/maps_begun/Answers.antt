use Rattle.std.proofs.Common.{ap, option_map}
use Rattle.std.proofs.lemmas.Result.{IfErr-weaker, IfOk-weaker}
use Rattle.filtering.proofs.FillingLaws.{begins_filled, begins_new, begins_refused, rows-begun, rows-filled}
use Rattle.filtering.proofs.filling.maps_begun.Goals as goal

pub returns-in-None-clause-rows : goal.returns-in-None-clause-rows
returns-in-None-clause-rows g c = rows-begun c.args.image.now c.in-Ok.maps c.in-Ok.ensures

pub returns-in-None-clause-begins : goal.returns-in-None-clause-begins
returns-in-None-clause-begins g c =
    begins_new c.args.image.now _ c.in-Ok.maps (ap (option_map (λ t. t.now)) c.in-None.is)
    c.in-Ok.ensures

pub returns-in-Ok-open-clause-rows : goal.returns-in-Ok-open-clause-rows
returns-in-Ok-open-clause-rows g c =
    IfOk-weaker c.filled.result _ _
    (λ maps f. rows-filled c.args.image.now _ c.in-Ok.maps maps c.in-Ok.ensures f)
    c.filled.ensures.fills

pub returns-in-Ok-open-clause-begins : goal.returns-in-Ok-open-clause-begins
returns-in-Ok-open-clause-begins g c =
    IfOk-weaker c.filled.result _ _
    (λ maps f. begins_filled c.args.image.now _ c.in-Some.text.now _ c.in-Ok.maps maps
    (ap (option_map (λ t. t.now)) c.in-Some.is) c.in-Ok.ensures f) c.filled.ensures.fills

pub returns-in-Ok-open-clause-none : goal.returns-in-Ok-open-clause-none
returns-in-Ok-open-clause-none g c =
    IfErr-weaker c.filled.result _ _
    (λ ended h. begins_refused c.args.image.now _ c.in-Some.text.now _ _ _ c.in-Ok.maps ended
    (ap (option_map (λ t. t.now)) c.in-Some.is) c.in-Ok.ensures h) c.filled.ensures.refuses
