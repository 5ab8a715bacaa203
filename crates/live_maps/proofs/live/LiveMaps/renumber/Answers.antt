use Rattle.live_maps.proofs.Common.{◌≡◌, ◌∙◌, ℕ, List, map, sym, ap, subst, KeyValues, key_values_of, rows_of, contents_of, serials_in, Live, AreLive}
use Rattle.isa_model.specs.Running.Runs.{numbered_maps, count_map_values}
use Rattle.live_maps.proofs.ContentLaws.{live_of, key_values_of-live_contents}
use Rattle.live_maps.proofs.NumberingLaws.{AreLive-numbered, numbered-all}
use Rattle.live_maps.proofs.live.LiveMaps.renumber.Goals as goal

pub invariant_of-self : goal.invariant_of-self
invariant_of-self c =
    let maps = c.self.inside.maps in
    let all = serials_in c.number_all-count.new.all.items in
    let done = c.number_all-count.ensures in
    let inv = c.self.invariant in (
      inv.0,
      done.room ∙ inv.1,
      subst (λ (n : ℕ). AreLive n maps all) (sym done.numbered.counted)
          (AreLive-numbered maps all done.maps done.numbered.are),
      done.kept,
    )

pub returns-clause-numbered : goal.returns-clause-numbered
returns-clause-numbered c =
    let i = c.self.inside in
    let maps = i.maps in
    let all = serials_in c.number_all-count.new.all.items in
    let done = c.number_all-count.ensures in
    let numbered : List KeyValues
    → Live = λ es.
    record {
      rows = rows_of maps;
      contents = numbered_maps 0 es;
      next_serial = count_map_values es;
    } in
    let new : live_of maps all c.number_all-count.result ≡ numbered (contents_of maps) =
    λ j. record {
      rows = rows_of maps;
      contents = numbered-all maps all done.numbered.are j;
      next_serial = done.numbered.counted j;
    } in
    let plain : contents_of maps
    ≡ map key_values_of (live_of maps (serials_in i.serials.items) i.next).contents =
    sym (key_values_of-live_contents maps (serials_in i.serials.items) c.self.invariant.2.long) in
    new ∙ ap numbered plain
    ∙ ap (λ (l : Live). record l {
      contents = numbered_maps 0 (map key_values_of l.contents);
      next_serial = count_map_values
          (map key_values_of l.contents);
    }) c.self.view_is
