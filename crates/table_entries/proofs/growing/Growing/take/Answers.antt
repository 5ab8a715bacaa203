use Rattle.table_entries.proofs.Common.{◌≡◌, ◌<◌, Some, Ok, subst, arith, Entry, entry_in, entry_of, entry_at, count_of, Grown}
use Rattle.table_entries.proofs.Numbers.{allowed-in}
use Rattle.table_entries.proofs.GrowingLaws.{Grows-placed, entry_at-placed}
use Rattle.table_entries.proofs.growing.Growing.take.Goals as goal

pub returns-then-place-clause-grows : goal.returns-then-place-clause-grows
returns-then-place-clause-grows c =
    let p = c.args.image.now in
    let e : Entry = entry_of c.in_ok-head.head c.args.state.now in
    let after = c.in_ok-head.after.now in
    let same = c.if-index-len.false in
    let inside = c.if-index-self.false in
    let len = c.len.ensures in
    let less = subst (λ (v : Grown). count_of v.table < v.count) c.self.view_is (omega arith) in
    let read =
    subst (λ (v : Grown). entry_in p v.rest ≡ Ok (Some e, after)) c.self.view_is
    c.in_ok-head.ensures.after in
    Grows-placed p c.args.self.now c.place.new.self e after c.place.result less read
    c.place.ensures.placed c.place.ensures.left

pub returns-then-place-clause-allowed : goal.returns-then-place-clause-allowed
returns-then-place-clause-allowed c =
    allowed-in c.args.image.now c.self.inside.rest.now
    (entry_of c.in_ok-head.head c.args.state.now) c.in_ok-head.after.now c.in_ok-head.ensures.after

pub returns-then-place-clause-entry : goal.returns-then-place-clause-entry
returns-then-place-clause-entry c =
    let p = c.args.image.now in
    let e : Entry = entry_of c.in_ok-head.head c.args.state.now in
    let after = c.in_ok-head.after.now in
    let same = c.if-index-len.false in
    let inside = c.if-index-self.false in
    let len = c.len.ensures in
    let less = subst (λ (v : Grown). count_of v.table < v.count) c.self.view_is (omega arith) in
    let read =
    subst (λ (v : Grown). entry_in p v.rest ≡ Ok (Some e, after)) c.self.view_is
    c.in_ok-head.ensures.after in
    let at : count_of c.args.self.now.table ≡ c.args.index =
    subst (λ (v : Grown). count_of v.table ≡ c.args.index) c.self.view_is (omega arith) in
    subst (λ k. entry_at p c.place.new.self.table k ≡ Some e) at
    (entry_at-placed p c.args.self.now c.place.new.self e after (c.requires.may less) read
    (c.place.ensures.placed c.if-place.true))
