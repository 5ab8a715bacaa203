use Rattle.std.proofs.Common.{◌≡◌, ◌∙◌, ◌+◌, arith, sym, subst}
use Rattle.control_flow.proofs.SlotSearch.{AreBelow, below_more}
use Rattle.control_flow.proofs.searches.SlotSearch.of_all.Goals as goal

pub loop-slot-preserved : goal.loop-slot-preserved
loop-slot-preserved c =
    subst (AreBelow (c.loop-slot.slot + 1)) (sym c.in_ok-push.ensures.items)
    (below_more c.loop-slot.slot c.loop-slot.frontier.items c.loop-slot.invariant)

pub returns : goal.returns
returns c =
    let below = c.loop-slot.invariant in
    let all : c.loop-slot.slot ≡ c.args.slots = omega arith in
    record {
      found_all = c.in_ok-vec.ensures.items_if_clones_equal (λ y e. e);
      as_many = below.as_many ∙ all;
      each = λ k low. below.each k (omega (arith, low, all));
      only = λ k h. let low = below.only k h in omega (arith, low, all);
    }
