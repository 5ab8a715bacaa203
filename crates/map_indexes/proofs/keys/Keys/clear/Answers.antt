use Rattle.map_indexes.proofs.Common.{ap, ◌∙◌, arith, slice_set, None, KeysByPlace}
use Rattle.map_indexes.proofs.KeyLaws.{keys_by_place-unused}
use Rattle.map_indexes.proofs.KeyLemmas.{block_places}
use Rattle.map_indexes.proofs.keys.Keys.clear.Goals as goal

pub index_mut-requires : goal.index_mut-requires
index_mut-requires c =
    let k = c.self.inside in
    let e = block_places k.size k.block.items k.used.items c.args.self.now c.self.view_is in
    let f = k.used.ok.0 in
    let h = c.requires.place in
    omega arith

pub returns-clause-keys : goal.returns-clause-keys
returns-clause-keys c =
    let k = c.self.inside in
    keys_by_place-unused k.size k.block.items 0 k.used.items c.args.place
    ∙ ap (λ (t : KeysByPlace). slice_set t.by_place c.args.place None) c.self.view_is
