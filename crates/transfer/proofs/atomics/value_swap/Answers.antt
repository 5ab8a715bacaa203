use Rattle.transfer.proofs.Common.{w16, w32, subst, FitsSigned, to_z-of_z, AreInValue}
use Rattle.transfer.proofs.atomics.value_swap.Goals as goal

pub returns : goal.returns
returns c =
    let least : FitsSigned w32 c.args.least = c.ranges.least in
    let greatest : FitsSigned w32 c.args.greatest = c.ranges.greatest in
    let by : FitsSigned w16 c.args.by = c.ranges.by in
    let inside = simp to_z-of_z at (c.are_in_value.ensures.0 c.if-not-are_in_value.false) in (
      subst (AreInValue c.args.value_bytes c.args.least c.args.greatest c.args.by)
          c.bytes.ensures.value inside,
      (c.of_size.result, c.of_size.ensures, c.keep_old.ensures),
    )
