use Rattle.transfer.proofs.Common.{◌∙◌, w16, w32, ap, subst, FitsSigned, to_z-of_z, size_bytes, AreInValue}
use Rattle.transfer.proofs.values.value_load_signed.Goals as goal

pub returns-then-are_in_value : goal.returns-then-are_in_value
returns-then-are_in_value c =
    let least : FitsSigned w32 c.args.least = c.ranges.least in
    let greatest : FitsSigned w32 c.args.greatest = c.ranges.greatest in
    let by : FitsSigned w16 c.args.by = c.ranges.by in
    let inside = simp to_z-of_z at (c.are_in_value.ensures.0 c.if-are_in_value.true) in (
      subst (AreInValue c.args.value_bytes c.args.least c.args.greatest c.args.by)
          (c.bytes.ensures.value ∙ ap size_bytes c.unsigned_size.ensures) inside,
      c.of_signed_size.ensures,
    )
