use Rattle.std.proofs.Common.{◌≡◌, sym}
use Rattle.isa_model.specs.Reporting.Reports.{starting_contents}
use Rattle.maps.specs.Maps.{contents_of}
use Rattle.maps.proofs.MapLaws.{rows_of-starting, contents_of-starting}
use Rattle.calls.proofs.running.machine_of.Goals as goal

pub new-requires-2 : goal.new-requires-2
new-requires-2 c =
    rw (c.in-Ok.ensures, c.image.ensures.program)
    (record { rows = rows_of-starting c.args.verified.program.maps })

pub returns-in-Ok-new : goal.returns-in-Ok-new
returns-in-Ok-new c =
    let e : contents_of c.in-Ok.maps ≡ starting_contents c.args.verified.program.maps =
    rw (c.in-Ok.ensures, c.image.ensures.program)
    (contents_of-starting c.args.verified.program.maps) in
    record { made = rw (sym e) c.in-Ok-new.ensures.made }
