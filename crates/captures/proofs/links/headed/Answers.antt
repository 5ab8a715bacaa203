use Rattle.captures.proofs.Common.{◌++◌, drop, ap, ◌∙◌, ethernet_head}
use Rattle.captures.proofs.LinkLaws.{headed_moved}
use Rattle.captures.proofs.links.headed.Goals as goal

pub returns-clause-frame : goal.returns-clause-frame
returns-clause-frame c =
    headed_moved c.args.start c.args.end c.args.kind c.args.block.now c.put_head-2.new.block
    c.requires.ordered c.requires.inside c.requires.room
    (c.put_head-2.ensures
    ∙ ap (λ l. ethernet_head c.args.kind ++ drop 14 l) c.copy_within.ensures.after)
