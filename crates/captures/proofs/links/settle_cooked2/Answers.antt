use Rattle.std.proofs.Common.{◌∙◌}
use Rattle.captures.proofs.LinkLaws.{cooked2_settled}
use Rattle.captures.proofs.links.settle_cooked2.Goals as goal

pub returns-clause-frame : goal.returns-clause-frame
returns-clause-frame c =
    cooked2_settled c.args.packet.now c.copy_from_slice-2.new.self c.copy_from_slice-3.new.self
    c.if-packet-lt20.false (c.copy_from_slice-2.ensures.after ∙ c.copy_from_slice.ensures.after)
    c.copy_from_slice-3.ensures.after
