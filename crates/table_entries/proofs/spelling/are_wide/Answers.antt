use Rattle.table_entries.proofs.Common.{rules, ◌≡◌, sym, ap, ◌∙◌, w64, SFits, to_z}
use Rattle.table_entries.proofs.Spelled.{signed-spelled, wide-spelled}
use Rattle.table_entries.proofs.spelling.are_wide.Goals as goal

pub returns : goal.returns
returns c = λ yes.
    let x = c.args.wide.now in
    let f : SFits w64 x.signed_least = search rules in
    let g : SFits w64 x.signed_greatest = search rules in
    let least : to_z w64 c.u64_at-3.result ≡ x.signed_least =
    signed-spelled w64 c.u64_at-3.result c.cast_signed.result x.signed_least c.u64_at-3.type_inv
    f c.cast_signed.ensures c.if-cast_signed-wide.false in
    let greatest : to_z w64 c.u64_at-4.result ≡ x.signed_greatest =
    signed-spelled w64 c.u64_at-4.result c.cast_signed-2.result x.signed_greatest
    c.u64_at-4.type_inv g c.cast_signed-2.ensures c.if-cast_signed-wide-2.false in
    wide-spelled x _ _ _ _ (sym c.u64_at.ensures ∙ c.if-u64_at-wide.false)
    (sym c.u64_at-2.ensures ∙ c.if-u64_at-wide-2.false)
    (ap (to_z w64) (sym c.u64_at-3.ensures) ∙ least)
    (ap (to_z w64) (sym c.u64_at-4.ensures) ∙ greatest)
