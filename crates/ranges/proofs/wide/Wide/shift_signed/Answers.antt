use Rattle.ranges.proofs.Common.{rules, w64, ◌^◌, FitsSigned, cast_signed, cast_unsigned, int_shr, to_z-of_z}
use Rattle.ranges.proofs.Limits.{shr_mono, shr_fits, cast_fits, signed_below_64}
use Rattle.ranges.proofs.wide.Wide.shift_signed.Goals as goal

pub signed_between-requires : goal.signed_between-requires
signed_between-requires c =
    let a = c.args.self in
    let f1 : FitsSigned w64 a.signed_least = search rules in
    let f2 : FitsSigned w64 a.signed_greatest = search rules in
    let g1 = shr_fits a.signed_least c.args.by f1 in
    let g2 = shr_fits a.signed_greatest c.args.by f2 in
    simp to_z-of_z (shr_mono a.signed_least a.signed_greatest (2 ^ c.args.by) a.signed_ordered)

pub returns-clause-contains : goal.returns-clause-contains
returns-clause-contains c = λ x hx.
    let a = c.args.self in
    let f1 : FitsSigned w64 a.signed_least = search rules in
    let f2 : FitsSigned w64 a.signed_greatest = search rules in
    let g1 = shr_fits a.signed_least c.args.by f1 in
    let g2 = shr_fits a.signed_greatest c.args.by f2 in
    let f = cast_fits x hx.below in
    let g = shr_fits (cast_signed w64 x) c.args.by f in
    (c.signed_between.ensures.members
    (cast_unsigned w64 (int_shr (cast_signed w64 x) c.args.by))).1 (
      signed_below_64 (int_shr (cast_signed w64 x) c.args.by) g,
      simp to_z-of_z (shr_mono _ _ (2 ^ c.args.by) hx.signed_from),
      simp to_z-of_z (shr_mono _ _ (2 ^ c.args.by) hx.signed_to),
    )

pub returns-clause-limits : goal.returns-clause-limits
returns-clause-limits c =
    let a = c.args.self in
    let f1 : FitsSigned w64 a.signed_least = search rules in
    let f2 : FitsSigned w64 a.signed_greatest = search rules in
    let g1 = shr_fits a.signed_least c.args.by f1 in
    let g2 = shr_fits a.signed_greatest c.args.by f2 in
    simp to_z-of_z at c.signed_between.ensures.limits
