use Rattle.live_maps.proofs.Common.{List, length, map, sym, ap, subst, ◌∙◌, length-map, KeyValues, key_values_of, rows_of, serials_in, Live}
use Rattle.isa_model.specs.Machine.MachineStates.{FitRows}
use Rattle.maps.proofs.MapLaws.{FitRows-IsMap}
use Rattle.live_maps.proofs.ContentLaws.{key_values_of-live_contents}
use Rattle.live_maps.proofs.live.LiveMaps.count.Goals as goal

pub returns-clause-count : goal.returns-clause-count
returns-clause-count c =
    let i = c.self.inside in
    c.count.ensures.count ∙ sym (length-map i.maps (λ m. m.row))
    ∙ ap (λ (l : Live). length l.rows) c.self.view_is

pub returns-clause-fit : goal.returns-clause-fit
returns-clause-fit c =
    let i = c.self.inside in
    subst (λ (l : Live). FitRows l.rows (map key_values_of l.contents)) c.self.view_is
    (subst (λ (es : List KeyValues). FitRows (rows_of i.maps) es)
    (sym (key_values_of-live_contents i.maps (serials_in i.serials.items) c.self.invariant.2.long))
    (FitRows-IsMap i.maps c.count.ensures.maps))
