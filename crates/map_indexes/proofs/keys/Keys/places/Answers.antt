use Rattle.std.proofs.Common.{sym, ◌∙◌}
use Rattle.map_indexes.proofs.KeyLemmas.{block_places}
use Rattle.map_indexes.proofs.keys.Keys.places.Goals as goal

pub returns : goal.returns
returns c =
    let k = c.self.inside in
    c.len.ensures ∙ k.used.ok.0
    ∙ sym (block_places k.size k.block.items k.used.items c.args.self.now c.self.view_is)
