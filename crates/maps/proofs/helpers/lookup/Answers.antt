use Rattle.maps.proofs.Common.{Some, ap, sym, ◌∙◌, option_copied, option_map, block_row}
use Rattle.maps.proofs.ContentLaws.{at_key-content}
use Rattle.maps.proofs.helpers.lookup.Goals as goal

pub returns-in_err-place : goal.returns-in_err-place
returns-in_err-place g c =
    let s = c.args.store.now in
    let size = (g.S.MapStore.row_of s).value_size in
    let block = g.S.MapStore.block s in
    ap option_copied c.from_residual.ensures
    ∙ sym (at_key-content size (g.S.MapStore.places s) block c.args.key.now
    ∙ ap (option_map (block_row size block)) (sym c.in_err-place.ensures))

pub returns : goal.returns
returns g c =
    let s = c.args.store.now in
    let size = (g.S.MapStore.row_of s).value_size in
    let block = g.S.MapStore.block s in
    ap Some c.value.ensures
    ∙ sym (at_key-content size (g.S.MapStore.places s) block c.args.key.now
    ∙ ap (option_map (block_row size block)) (sym c.in_ok-place.ensures))
