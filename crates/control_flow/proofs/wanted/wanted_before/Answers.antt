use Rattle.std.proofs.lemmas.Bool.{iff_false}
use Rattle.control_flow.proofs.MaskUpdates.{left_of_both, wanted_passing, wanted_passing_none}
use Rattle.control_flow.proofs.wanted.wanted_before.Goals as goal

pub returns-then-meets : goal.returns-then-meets
returns-then-meets c =
    wanted_passing c.args.masks.now c.args.node.now c.or-behind.result c.or-left.result c.or.result
    (left_of_both c.args.masks.now c.args.node.now c.mask_behind-fallen.result
    c.mask_behind-jumped.result c.or-behind.result c.without.result c.or-left.result
    c.mask_behind-fallen.ensures c.mask_behind-jumped.ensures c.or-behind.ensures.all
    c.without.ensures c.or-left.ensures.all)
    (c.meets.ensures.0 c.if-meets.true) c.or.ensures.all

pub returns-else-meets : goal.returns-else-meets
returns-else-meets c =
    wanted_passing_none c.args.masks.now c.args.node.now c.or-behind.result c.or-left.result
    (left_of_both c.args.masks.now c.args.node.now c.mask_behind-fallen.result
    c.mask_behind-jumped.result c.or-behind.result c.without.result c.or-left.result
    c.mask_behind-fallen.ensures c.mask_behind-jumped.ensures c.or-behind.ensures.all
    c.without.ensures c.or-left.ensures.all)
    (iff_false c.meets.ensures c.if-meets.false)
