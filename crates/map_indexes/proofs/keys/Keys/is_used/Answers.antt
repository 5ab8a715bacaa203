use Rattle.map_indexes.proofs.Common.{ap, sym, ◌∙◌, arith, false, is_some, get_or_read, KeysByPlace, key_in}
use Rattle.map_indexes.proofs.KeyLaws.{is_some-key_in}
use Rattle.map_indexes.proofs.KeyLemmas.{block_places}
use Rattle.map_indexes.proofs.keys.Keys.is_used.Goals as goal

pub index-requires : goal.index-requires
index-requires c =
    let k = c.self.inside in
    let e = block_places k.size k.block.items k.used.items c.args.self.now c.self.view_is in
    let f = k.used.ok.0 in
    let h = c.requires in
    omega arith

pub returns : goal.returns
returns c =
    let k = c.self.inside in
    let e = block_places k.size k.block.items k.used.items c.args.self.now c.self.view_is in
    let h = c.requires in
    get_or_read k.used.items c.args.place c.index.result.now (omega arith) c.index.ensures false
    ∙ sym (is_some-key_in k.size k.block.items 0 k.used.items c.args.place)
    ∙ ap (λ (t : KeysByPlace). is_some (key_in t.by_place c.args.place)) c.self.view_is
