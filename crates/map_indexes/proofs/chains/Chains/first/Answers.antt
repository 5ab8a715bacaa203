use Rattle.std.proofs.Common.{◌∙◌, arith}
use Rattle.map_indexes.proofs.chains.Chains.first.Goals as goal

pub at-requires : goal.at-requires
at-requires c =
    let s = c.args.self.now in
    let n = s.counted in
    let h = c.requires in
    omega arith

pub returns : goal.returns
returns c =
    let s = c.args.self.now in
    let n = s.counted in
    let h = c.requires in
    c.at.ensures ∙ s.chained.first c.args.chain (omega arith)
