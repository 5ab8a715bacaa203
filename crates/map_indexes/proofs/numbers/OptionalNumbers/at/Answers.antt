use Rattle.map_indexes.proofs.Common.{ℕ, List, length, Option, None, sym, ap, ◌∙◌, arith, slice_index_or, get_or-map, get_or_read, length-map, number_of}
use Rattle.map_indexes.proofs.numbers.OptionalNumbers.at.Goals as goal

pub index-requires : goal.index-requires
index-requires c =
    let l = c.self.inside in
    let long = ap length c.self.view_is in
    let same = length-map l.codes.items number_of in
    let f = l.codes.ok.0 in
    let h = c.requires in
    omega arith

pub returns : goal.returns
returns c =
    let l = c.self.inside in
    let long = ap length c.self.view_is in
    let same = length-map l.codes.items number_of in
    let h = c.requires in
    c.number_of.ensures
    ∙ ap number_of (get_or_read l.codes.items c.args.i c.index.result.now
    (omega arith) c.index.ensures 0)
    ∙ sym (get_or-map number_of l.codes.items c.args.i 0 None (omega arith))
    ∙ ap (λ (xs : List (Option ℕ)). slice_index_or xs c.args.i None) c.self.view_is
