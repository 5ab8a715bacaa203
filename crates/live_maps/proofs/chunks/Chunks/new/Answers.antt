use Rattle.live_maps.proofs.Common.{ℕ, List, length, sym, ap, subst, ◌∙◌, arith, slice_index_or, Global, Vec, get_or-replicate, IsChunk, all_places, lists_of}
use Rattle.live_maps.proofs.ChunkLaws.{all_places-push, push_holds}
use Rattle.live_maps.proofs.RanksLaws.{count-most}
use Rattle.live_maps.proofs.chunks.Chunks.new.Goals as goal

pub loop-c-preserved : goal.loop-c-preserved
loop-c-preserved c =
    let inv = c.loop-c.invariant in
    let old = c.loop-c.chunks.items in
    let q = c.in_ok-with_capacity.field-0 in
    let made = c.in_ok-with_capacity.ensures in
    let pushed = c.push_reserved.ensures in
    let none = ap length made.items in
    let enough = made.capacity in
    let least = c.min.ensures in
    let len = inv.len in
    let more = pushed.len in
    let vector = c.loop-c.chunks.ok.0 in
    let one : IsChunk c.args.room q = record { most = omega arith; capacity = omega arith } in
    record {
      len = omega arith;
      capacity = pushed.capacity ∙ inv.capacity;
      each = λ k d l.
          subst (λ (xs : List (Vec ℕ Global)). IsChunk c.args.room (slice_index_or xs k d))
          (sym pushed.items)
          (push_holds (λ (x : Vec ℕ Global). IsChunk c.args.room x) old q c.loop-c.c (omega arith)
          one inv.each k d l);
      places = ap all_places pushed.items ∙ all_places-push old q made.items ∙ inv.places;
    }

pub returns-clause-chunks : goal.returns-clause-chunks
returns-clause-chunks c =
    let inv = c.loop-c.invariant in
    let chunks = c.loop-c.chunks.items in
    let len = inv.len in
    let past = c.loop-c-test.false in
    let end = c.loop-c.auto.c-end in
    let vector = c.loop-c.chunks.ok.0 in
    let starts = c.in_ok-starts.starts.ok.0 in
    let zeros = c.in_ok-starts.ensures.len in
    let none = ap length inv.places in
    let enough = c.in_ok-list.ensures.capacity in
    record {
      few = omega arith;
      small = c.ranges.room.fits;
      listed = omega arith;
      count = omega arith;
      long = omega arith;
      each = λ k d l. inv.each k d (omega arith);
      begin = λ k l.
          let most = count-most (lists_of chunks) k in
          ap (λ (xs : List ℕ). slice_index_or xs k 0) (c.in_ok-starts.ensures.items_if_clones_equal (λ y e. e))
          ∙ get_or-replicate _ k 0 0 (omega arith) ∙ omega arith;
    }
