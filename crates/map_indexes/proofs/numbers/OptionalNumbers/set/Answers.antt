use Rattle.map_indexes.proofs.Common.{ℕ, List, length, Option, ap, ◌∙◌, arith, slice_set, length-map, map-set, number_of}
use Rattle.map_indexes.proofs.numbers.OptionalNumbers.set.Goals as goal

pub index_mut-requires : goal.index_mut-requires
index_mut-requires c =
    let l = c.self.inside in
    let long = ap length c.self.view_is in
    let same = length-map l.codes.items number_of in
    let f = l.codes.ok.0 in
    let h = c.requires.inside in
    omega arith

pub returns : goal.returns
returns c =
    let l = c.self.inside in
    map-set number_of l.codes.items c.args.i c.code_of.result
    ∙ ap (slice_set _ c.args.i) c.code_of.ensures
    ∙ ap (λ (xs : List (Option ℕ)). slice_set xs c.args.i c.args.number) c.self.view_is
