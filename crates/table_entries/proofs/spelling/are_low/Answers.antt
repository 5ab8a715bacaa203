use Rattle.table_entries.proofs.Common.{rules, ◌≡◌, sym, ap, ◌∙◌, w32, SFits, to_z}
use Rattle.table_entries.proofs.Spelled.{signed-spelled, low-spelled}
use Rattle.table_entries.proofs.spelling.are_low.Goals as goal

pub returns : goal.returns
returns c = λ yes.
    let x = c.args.low.now in
    let f : SFits w32 x.signed_least = search rules in
    let g : SFits w32 x.signed_greatest = search rules in
    let least : to_z w32 c.u32_at-3.result ≡ x.signed_least =
    signed-spelled w32 c.u32_at-3.result c.cast_signed.result x.signed_least c.u32_at-3.type_inv
    f c.cast_signed.ensures c.if-cast_signed-low.false in
    let greatest : to_z w32 c.u32_at-4.result ≡ x.signed_greatest =
    signed-spelled w32 c.u32_at-4.result c.cast_signed-2.result x.signed_greatest
    c.u32_at-4.type_inv g c.cast_signed-2.ensures c.if-cast_signed-low-2.false in
    low-spelled x _ _ _ _ (sym c.u32_at.ensures ∙ c.if-u32_at-low.false)
    (sym c.u32_at-2.ensures ∙ c.if-u32_at-low-2.false)
    (ap (to_z w32) (sym c.u32_at-3.ensures) ∙ least)
    (ap (to_z w32) (sym c.u32_at-4.ensures) ∙ greatest)
