use Rattle.state_cover.specs.Names.{packet_name, null_name}
use Rattle.state_cover.proofs.set_covers.Goals as goal

pub returns-clause-no : goal.returns-clause-no
returns-clause-no c =
    λ encloses. c.covers.ensures.encloses (packet_name c.args.a.now c.args.b.now)
    (null_name c.args.a.now c.args.b.now) c.name_in.ensures encloses
