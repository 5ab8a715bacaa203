use Rattle.live_maps.proofs.Common.{◌+◌, ◌<◌, ◌++◌, ℕ, List, Bool, take, length, sym, ap, ◌∙◌, arith, if◌then◌else◌, slice_index_or, concat, lists_of}
use Rattle.live_maps.proofs.ChunkLaws.{count-more, length-lists, list_read}
use Rattle.live_maps.proofs.RanksLaws.{count-most, one_more}
use Rattle.live_maps.proofs.chunks.Chunks.respread.Goals as goal

pub loop-c-preserved : goal.loop-c-preserved
loop-c-preserved c =
    let chunks = c.args.self.now.chunks.items in
    let inv = c.loop-c.invariant in
    let at = c.loop-c.c in
    let q = c.index.result.now in
    let less = c.loop-c-test.true in
    let count = c.len-c-end.ensures in
    let first = c.args.self.now.chunks.ok.0 in
    let old = c.loop-c.self.list.ok.0 in
    let same = length-lists chunks in
    let inside : at < length chunks = omega arith in
    let read = c.index.ensures ∙ ap (λ v. slice_index_or v.items at q) inv.chunks in
    let here = list_read chunks at q inside read in
    let slice = c.as_slice.ensures.value in
    let other = ap length slice in
    let long = ap length here in
    let more = count-more (lists_of chunks) at (omega arith) in
    let most = count-most (lists_of chunks) (at + 1) in
    let few = c.requires.few in
    let room = inv.capacity in
    let listed = ap length inv.list in
    let ok = c.extend_from_slice-put.ensures.succeeds (omega arith) in
    let grown = c.extend_from_slice-put.ensures.capacity in
    record {
      chunks = inv.chunks;
      starts = inv.starts;
      room = inv.room;
      capacity = omega arith;
      list =
          c.extend_from_slice-put.ensures.items
          ∙ ap (λ (b : Bool). if b then c.loop-c.self.list.items ++ c.as_slice.result.now
          else c.loop-c.self.list.items) ok
          ∙ ap (λ (ys : List ℕ). ys ++ c.as_slice.result.now) inv.list
          ∙ ap (λ (ys : List ℕ). concat (take at (lists_of chunks)) ++ ys) (slice ∙ sym here)
          ∙ sym (one_more (lists_of chunks) at (omega arith));
    }
