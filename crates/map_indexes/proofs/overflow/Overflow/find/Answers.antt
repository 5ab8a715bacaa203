use Rattle.map_indexes.proofs.OverflowLaws.{key_at, never, searchable}
use Rattle.map_indexes.proofs.overflow.Overflow.find.Goals as goal

pub returns-in-Ok-clause-found : goal.returns-in-Ok-clause-found
returns-in-Ok-clause-found c =
    key_at c.args.keys.now.by_place c.args.self.now.places.items c.requires c.in-Ok.i
    c.in-Ok.ensures.bound c.args.key.now (c.in-Ok.ensures.position 0)

pub returns-in-Err-clause-absent : goal.returns-in-Err-clause-absent
returns-in-Err-clause-absent c = λ none.
    let keys = c.args.keys.now.by_place in
    let xs = c.args.self.now.places.items in
    let key = c.args.key.now in
    never keys xs key _ (c.in-Err.ensures.position (searchable keys xs c.requires key))
