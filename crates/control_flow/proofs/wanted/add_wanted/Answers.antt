use Rattle.control_flow.proofs.Common.{sym, ◌∙◌, arith, slice_get-get_or, mask_at}
use Rattle.control_flow.proofs.MaskUpdates.{mask_grown, masks_apart}
use Rattle.control_flow.proofs.wanted.add_wanted.Goals as goal

pub returns : goal.returns
returns c =
    mask_grown c.args.nodes.now c.args.slot _ c.args.masks.now c.wanted_before.result
    c.or-new.result (
      slice_get-get_or c.args.nodes.now c.args.slot _ c.requires.inside,
      c.wanted_before.ensures,
      c.or-new.ensures.all,
    )
    (omega arith) (omega arith) (omega arith) c.or-new.ensures.registers c.or-new.ensures.slots
    (masks_apart c.or-new.result (mask_at c.args.masks.now c.args.slot)
    (sym c.eq.ensures ∙ c.if-eq.false))
