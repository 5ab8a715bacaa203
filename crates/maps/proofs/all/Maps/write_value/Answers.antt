use Rattle.maps.proofs.Common.{refl, vec_capacity, WritesValue}
use Rattle.maps.proofs.AllMaps.{map_changed, others-set, HaveRoom-set, inside}
use Rattle.maps.proofs.all.Maps.write_value.Goals as goal

pub returns-clause-written : goal.returns-clause-written
returns-clause-written c =
    let x = c.index_mut.result.now in
    let e = c.write_value.ensures in
    map_changed c.args.self.now c.self.inside.stores.all.items c.self.view_is c.args.map
    c.requires.map
    (WritesValue c.args.place c.args.at c.args.bytes.now) x c.write_value.new.self
    c.index_mut.ensures.value
    (record { row = e.row; places = rw e.index refl; block = e.block })

pub returns-clause-others : goal.returns-clause-others
returns-clause-others c = others-set c.args.self.now c.self.inside.stores.all.items c.self.view_is
    c.args.map c.requires.map c.write_value.new.self

pub invariant_of-self : goal.invariant_of-self
invariant_of-self c =
    let i = c.self.inside.stores in
    let low = inside c.args.self.now i.all.items c.self.view_is c.args.map c.requires.map in
    record {
      room = HaveRoom-set (vec_capacity i.list) (vec_capacity i.all) i.all.items c.args.map
          c.index_mut.result.now c.write_value.new.self low c.index_mut.ensures.value
          c.write_value.ensures.row c.self.invariant.room;
      kept = tt;
    }
