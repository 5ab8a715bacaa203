use Rattle.map_indexes.proofs.Common.{◌≡◌, ap, ◌∙◌, List, Bool, false, replicate, keys_by_place}
use Rattle.map_indexes.proofs.KeyLaws.{keys_by_place-replicate}
use Rattle.map_indexes.proofs.keys.Keys.new.Goals as goal

pub returns-clause-empty : goal.returns-clause-empty
returns-clause-empty c =
    let block = c.in_ok-block.block.items in
    let unused : c.in_ok-used.used.items ≡ replicate c.args.places false =
    ap (λ v. v.items) c.in_ok-used.ensures.same
    ∙ c.in_ok-unused.ensures.items_if_clones_equal (λ y e. e) in
    ap (λ (used : List Bool). keys_by_place c.from-size.result block 0 used) unused
    ∙ keys_by_place-replicate c.from-size.result block 0 c.args.places
