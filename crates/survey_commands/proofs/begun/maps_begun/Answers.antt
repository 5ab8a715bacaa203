use Rattle.std.proofs.Common.{◌∙◌, ap}
use Rattle.std.proofs.lemmas.Result.{IfOk-weaker}
use Rattle.maps.specs.Maps.{rows_of}
use Rattle.maps.proofs.MapLaws.{rows_of-starting}
use Rattle.survey_commands.proofs.begun.maps_begun.Goals as goal

pub returns-in-None : goal.returns-in-None
returns-in-None g c = ap rows_of c.in-Ok.ensures ∙ rows_of-starting c.args.image.now.maps

pub returns-in-Ok-open : goal.returns-in-Ok-open
returns-in-Ok-open g c =
    IfOk-weaker c.filled.result _ _
    (λ maps same. same ∙ ap rows_of c.in-Ok.ensures ∙ rows_of-starting c.args.image.now.maps)
    c.filled.ensures
