use Rattle.captures.proofs.Common.{ap, ◌∙◌, option_value, scale_by, offset_by}
use Rattle.captures.proofs.PacketLaws.{interface_options-is, interface_in-parts}
use Rattle.captures.proofs.interfaces.interface_in.Goals as goal

pub returns : goal.returns
returns c =
    let order = c.args.order in
    let block = c.args.block.now in
    let options = interface_options-is block c.requires in
    interface_in-parts order block _ _ _ _ c.short_at.ensures
    (c.scale_by.ensures
    ∙ ap scale_by (c.option_value.ensures ∙ ap (option_value order 9) options))
    (c.offset_by.ensures
    ∙ ap (offset_by order) (c.option_value-2.ensures ∙ ap (option_value order 14) options))
    c.number_at.ensures
