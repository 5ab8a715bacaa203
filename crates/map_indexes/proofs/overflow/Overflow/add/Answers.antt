use Rattle.map_indexes.proofs.Common.{◌≡◌, ◌<◌, ℕ, List, length, sym, ap, subst, ◌∙◌, arith, rules, insert, place_at, is_listed, AreRising}
use Rattle.map_indexes.proofs.OverflowLaws.{key_at, listed_at, listed-insert, rising-insert, searchable}
use Rattle.map_indexes.proofs.overflow.Overflow.add.Goals as goal
use Rattle.map_indexes.proofs.overflow.Overflow.add.Goals.{After-insert}

pub unreachable-requires : goal.unreachable-requires
unreachable-requires c =
    let keys = c.args.keys.now.by_place in
    let xs = c.args.self.now.places.items in
    let i = c.in-Ok.field-0 in
    let low : i < length xs = c.in-Ok.ensures.bound in
    c.requires.absent (place_at xs i) (listed_at xs i low)
    (key_at keys xs c.requires.rising i low c.args.key.now (c.in-Ok.ensures.position 0))

-- there was room, so the place is in
inserted : (c : After-insert) → c.insert.new.self.items
    ≡ insert c.args.self.now.places.items c.in-Err.i c.args.place
inserted c = search rules

pub returns-clause-rising : goal.returns-clause-rising
returns-clause-rising c =
    let keys = c.args.keys.now.by_place in
    let xs = c.args.self.now.places.items in
    let key = c.args.key.now in
    let i = c.in-Err.i in
    let parted = c.in-Err.ensures.position (searchable keys xs c.requires.rising key) in
    subst (AreRising keys) (sym (inserted (goal.at.returns-clause-rising c).After-insert))
    (rising-insert keys xs c.requires.rising c.args.place i key c.in-Err.ensures.bound
    c.requires.key (λ k l. parted.0 k 0 (omega arith) l) (λ k l m. parted.1 k 0 l m))

pub returns-clause-listed : goal.returns-clause-listed
returns-clause-listed c = λ p.
    let xs = c.args.self.now.places.items in
    ap (λ (ys : List ℕ). is_listed ys p)
    (inserted (goal.at.returns-clause-listed c).After-insert)
    ∙ listed-insert xs c.in-Err.i c.args.place p
