use Rattle.filtering.proofs.Common.{◌∙◌, ap, Program, filter_request_of}
use Rattle.maps.specs.Maps.{contents_of}
use Rattle.filtering.proofs.FilesLaws.{filters_opened, filters_unbegun, filters_unopened}
use Rattle.filtering.proofs.files.filter_on.Goals as goal

pub filter_counted-requires : goal.filter_counted-requires
filter_counted-requires g c =
    c.in-Ok.ensures.rows ∙ ap (λ (p : Program). p.maps) c.image.ensures

pub returns-in-Err : goal.returns-in-Err
returns-in-Err g c =
    filters_unbegun c.args.ready (filter_request_of c.args.task) _ _ _ _ c.image.ensures
    c.in-Err.ensures.none

pub returns-in-Ok-open_all : goal.returns-in-Ok-open_all
returns-in-Ok-open_all g c =
    filters_opened c.args.ready (filter_request_of c.args.task) _ (contents_of c.in-Ok.maps) _ _ _
    _ _ _ _ _ _ c.image.ensures c.in-Ok.ensures.begins c.in-Ok.ensures.ok
    c.in-Ok-open_all.ensures.report c.in-Ok-open_all.ensures.maps_out c.output_name-name.ensures
    c.filter_counted.ensures

pub returns : goal.returns
returns g c =
    filters_unopened c.args.ready (filter_request_of c.args.task) _ (contents_of c.in-Ok.maps) _ _
    _ c.image.ensures c.in-Ok.ensures.begins c.in-Ok.ensures.ok c.in-Err-open_all.ensures.failed
