use Rattle.explanations.proofs.Common.{◌≡◌, ℕ, length, ap, ◌∙◌, sym, arith, State}
use Rattle.explanations.proofs.FrontLaws.{front_begun, front_turn, front_whole}
use Rattle.explanations.proofs.fronts.front_of.Goals as goal

pub loop-index-init : goal.loop-index-init
loop-index-init c =
    rw c.copy-front.ensures
    (front_begun c.args.entry.now c.args.last c.args.register_count c.args.slot_count)

pub loop-index-preserved : goal.loop-index-preserved
loop-index-preserved c =
    let e = c.args.entry.now in
    let same : length c.copy-front.result.callers.items ≡ length e.callers.items =
    ap (λ (s : State). length s.callers.items) c.copy-front.ensures in
    let count = c.len-count.ensures.value in
    front_turn e c.loop-index.front c.args.last c.args.register_count c.args.slot_count
    c.loop-index.index c.count_in-registers.result c.count_in-slots.result
    c.deref_mut.result.now c.index-deref_mut-index.result c.keep_front.new.frame
    c.deref_mut.ensures.value (omega (arith, same, count)) c.count_in-registers.ensures.is
    c.count_in-slots.ensures.is c.keep_front.ensures c.loop-index.invariant

pub returns : goal.returns
returns c =
    let e = c.args.entry.now in
    let same : length c.copy-front.result.callers.items ≡ length e.callers.items =
    ap (λ (s : State). length s.callers.items) c.copy-front.ensures in
    let count = c.len-count.ensures.value in
    front_whole e c.loop-index.front c.args.last c.args.register_count c.args.slot_count
    c.loop-index.index c.len-count.result c.count_in-registers-2.result c.count_in-slots-2.result
    c.keep_front-2.new.frame (omega arith) (omega (arith, same, count))
    c.count_in-registers-2.ensures.is c.count_in-slots-2.ensures.is c.keep_front-2.ensures
    c.loop-index.invariant
