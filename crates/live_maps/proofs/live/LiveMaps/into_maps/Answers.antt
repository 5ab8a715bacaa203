use Rattle.live_maps.proofs.Common.{map, sym, ap, ◌∙◌, key_values_of, serials_in, Live}
use Rattle.live_maps.proofs.ContentLaws.{key_values_of-live_contents}
use Rattle.live_maps.proofs.live.LiveMaps.into_maps.Goals as goal

pub returns-clause-contents : goal.returns-clause-contents
returns-clause-contents c =
    let i = c.self.inside in
    sym (key_values_of-live_contents i.maps (serials_in i.serials.items) c.self.invariant.2.long)
    ∙ ap (λ (l : Live). map key_values_of l.contents) c.self.view_is
