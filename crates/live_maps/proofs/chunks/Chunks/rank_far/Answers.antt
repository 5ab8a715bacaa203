use Rattle.std.proofs.Common.{◌≡◌, ℕ, length, subst, arith}
use Rattle.live_maps.proofs.ChunkLaws.{Nowhere, found_in, nowhere-next, nowhere_in}
use Rattle.live_maps.proofs.chunks.Chunks.rank_far.Goals as goal

pub returns-in-Some-clause-found : goal.returns-in-Some-clause-found
returns-in-Some-clause-found c =
    let less = c.loop-c-test.true in
    let count = c.len-c-end.ensures in
    let vector = c.args.self.now.chunks.ok.0 in
    found_in c.args.self.now c.loop-c.c c.in-Some.i c.index-in-Some.result.now c.args.place
    c.index.result.now c.requires (omega arith) c.index.ensures c.index-in-Some.ensures
    c.in-Some.ensures.found

pub loop-c-preserved : goal.loop-c-preserved
loop-c-preserved c =
    let less = c.loop-c-test.true in
    let count = c.len-c-end.ensures in
    let vector = c.args.self.now.chunks.ok.0 in
    nowhere-next c.loop-c.c c.args.place c.args.self.now.chunks.items c.index.result.now
    (omega arith) c.index.ensures c.loop-c.invariant c.in_default.ensures.none

pub returns-clause-none : goal.returns-clause-none
returns-clause-none c =
    let vector = c.args.self.now.chunks.ok.0 in
    let count = c.len-c-end.ensures in
    let past = c.loop-c-test.false in
    let end = c.loop-c.auto.c-end in
    let last : c.loop-c.c ≡ length c.args.self.now.chunks.items = omega arith in
    nowhere_in c.args.place c.args.self.now.chunks.items
    (subst (λ (n : ℕ). Nowhere n c.args.place c.args.self.now.chunks.items) last
    c.loop-c.invariant)
