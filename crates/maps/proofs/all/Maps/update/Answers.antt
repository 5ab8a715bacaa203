use Rattle.maps.proofs.Common.{ap, ◌∙◌, vec_capacity, MapDef, content, Updated}
use Rattle.maps.proofs.AllMaps.{state, map_changed, others-set, HaveRoom-set, inside}
use Rattle.maps.proofs.all.Maps.update.Goals as goal

pub returns-clause-updated : goal.returns-clause-updated
returns-clause-updated c =
    let x = c.index_mut.result.now in
    let t = c.update.new.store in
    let e = c.update.ensures in
    map_changed c.args.self.now c.self.inside.stores.all.items c.self.view_is c.args.map
    c.requires.map
    (Updated c.args.key.now c.args.value.now c.args.flags c.update.result) x t
    c.index_mut.ensures.value
    (record {
      row = e.row;
      answer = e.answer;
      content = ap (λ (r : MapDef). content r.value_size (state t).places (state t).block) e.row
          ∙ e.content;
      updates = e.updates;
    })

pub returns-clause-others : goal.returns-clause-others
returns-clause-others c = others-set c.args.self.now c.self.inside.stores.all.items c.self.view_is
    c.args.map c.requires.map c.update.new.store

pub invariant_of-self : goal.invariant_of-self
invariant_of-self c =
    let i = c.self.inside.stores in
    let low = inside c.args.self.now i.all.items c.self.view_is c.args.map c.requires.map in
    record {
      room = HaveRoom-set (vec_capacity i.list) (vec_capacity i.all) i.all.items c.args.map
          c.index_mut.result.now c.update.new.store low c.index_mut.ensures.value
          c.update.ensures.row
          c.self.invariant.room;
      kept = tt;
    }
