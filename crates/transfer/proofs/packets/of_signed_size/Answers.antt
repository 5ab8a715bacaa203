use Rattle.transfer.proofs.Common.{w64, sym, subst, rules, FitsSigned, cast_signed, to_z-of_z, size_extension}
use Rattle.ranges.specs.Keeps.{extension_signed}
use Rattle.transfer.proofs.packets.of_signed_size.Goals as goal

pub returns : goal.returns
returns c =
    let least : FitsSigned w64 c.signed_limits-least.result.0 = search rules in
    let greatest : FitsSigned w64 c.signed_limits-least.result.1 = search rules in
    let fits = c.signed_limits-least.ensures.fits in
    let ordered = c.signed_limits-least.ensures.ordered in
    let range = simp to_z-of_z at c.signed_between.ensures in
    let limits = range.limits in
    let width = extension_signed (size_extension c.args.size) in
    record {
      members = λ x. (
        λ h. let m = (range.members x).0 h.1 in (m.0, (fits (cast_signed w64 x)).0 (m.1, m.2)),
        λ h. let m =
            (fits (cast_signed w64 x)).1 h.1 in
            ((c.any.ensures x).1 h.0, (range.members x).1 (h.0, m.0, m.1)),
      );
      signed_least =
          subst (FitsSigned width) (sym limits.0)
          ((fits c.signed_limits-least.result.0).0 (search rules, ordered));
      signed_greatest =
          subst (FitsSigned width) (sym limits.1)
          ((fits c.signed_limits-least.result.1).0 (ordered, search rules));
    }
