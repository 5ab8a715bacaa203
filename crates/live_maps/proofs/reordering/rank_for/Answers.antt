use Rattle.live_maps.proofs.Common.{◌+◌, ◌-◌, ◌/◌, ◌∙◌, ℕ, sym, arith, map_at}
use Rattle.live_maps.proofs.ReorderLaws.{before_up_to, not_from}
use Rattle.live_maps.proofs.reordering.rank_for.Goals as goal

pub loop-low-preserved-then-is_before : goal.loop-low-preserved-then-is_before
loop-low-preserved-then-is_before c =
    let P = (map_at c.args.maps.now c.args.map).places in
    let i = c.loop-low.invariant in
    let order = i.order in
    let inside = i.inside in
    let less = c.loop-low-test.true in
    let m : ℕ = c.loop-low.low + (c.loop-low.high - c.loop-low.low) / 2 in
    record {
      order = omega arith;
      inside = inside;
      below = λ j p l e. before_up_to P c.args.ranks.now.places m j p c.at.result c.args.place
          c.requires.rising c.at.ensures
          (λ a b f g. sym (c.is_before.ensures a b f g) ∙ c.if-is_before.true) l e;
      after = i.after;
    }

pub loop-low-preserved : goal.loop-low-preserved
loop-low-preserved c =
    let P = (map_at c.args.maps.now c.args.map).places in
    let i = c.loop-low.invariant in
    let order = i.order in
    let inside = i.inside in
    let less = c.loop-low-test.true in
    let m : ℕ = c.loop-low.low + (c.loop-low.high - c.loop-low.low) / 2 in
    record {
      order = omega arith;
      inside = omega arith;
      below = i.below;
      after = λ j p l e. not_from P c.args.ranks.now.places m j p c.at.result c.args.place
          c.requires.rising c.at.ensures
          (λ a b f g. sym (c.is_before.ensures a b f g) ∙ c.if-is_before.false) l e;
    }
