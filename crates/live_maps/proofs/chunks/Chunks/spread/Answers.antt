use Rattle.live_maps.proofs.Common.{◌≡◌, ◌+◌, ◌-◌, ◌*◌, ◌<◌, ℕ, List, take, drop, length, sym, ap, subst, ◌∙◌, arith, min, Global, Vec, length-set, length-take, IsChunk}
use Rattle.live_maps.proofs.ChunkLaws.{filled_next, set_holds, short_next}
use Rattle.live_maps.proofs.chunks.Chunks.spread.Goals as goal

pub loop-c-preserved : goal.loop-c-preserved
loop-c-preserved c =
    let k = c.loop-c.self in
    let inv = c.loop-c.invariant in
    let at = c.loop-c.c in
    let q = c.index_mut.result.now in
    let new = c.refill.new.chunk in
    let xs = c.args.self.now.list.items in
    let less = c.loop-c-test.true in
    let count = c.len-c-end.ensures in
    let first = c.args.self.now.chunks.ok.0 in
    let vector = c.args.self.now.list.ok.0 in
    let same = inv.count in
    let list = ap (λ v. v.len) inv.list in
    let a = c.len.ensures in
    let b = c.len-in-loop-c.ensures in
    let start_is : c.min-start.result ≡ min (at * 768) (length xs) =
    (let d = c.min-start.ensures in omega arith) in
    let end_is : c.min-end.result ≡ min (c.min-start.result + 768) (length xs) =
    (let d = c.min-end.ensures in omega arith) in
    let items : new.items ≡ take (c.min-end.result - c.min-start.result) (drop c.min-start.result xs) =
    c.refill.ensures.items
    ∙ ap (λ (ys : List ℕ). take (c.min-end.result - c.min-start.result)
    (drop c.min-start.result ys)) (c.as_slice.ensures.value ∙ ap (λ v. v.items) inv.list) in
    let short = ap length items ∙ length-take (c.min-end.result - c.min-start.result)
    (drop c.min-start.result xs) in
    let inside : at < length k.chunks.items = omega arith in
    let was : IsChunk c.args.self.now.room q =
    subst (λ (x : Vec ℕ Global). IsChunk c.args.self.now.room x) (sym c.index_mut.ensures.value)
    (inv.each at q inside) in
    let room = was.capacity in
    let more = c.refill.ensures.capacity in
    let one : IsChunk c.args.self.now.room new =
    record { most = omega arith; capacity = omega arith } in
    record {
      count = length-set k.chunks.items at new ∙ same;
      each = λ j d m.
          set_holds (λ (x : Vec ℕ Global). IsChunk c.args.self.now.room x) k.chunks.items at new
          inside one inv.each j d (let long = length-set k.chunks.items at new in omega arith);
      room = inv.room;
      list = inv.list;
      starts = inv.starts;
      filled = filled_next k.chunks.items at c.min-start.result c.min-end.result new xs inside
          inv.filled start_is end_is items;
      short = short_next k.chunks.items at new inside (omega arith) inv.short;
    }
