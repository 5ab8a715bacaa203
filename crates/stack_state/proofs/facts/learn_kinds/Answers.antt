use Rattle.stack_state.proofs.Common.{arith, ap, length-set, get_or, set, ◌∙◌, get_or_default, map_over_more, learned}
use Rattle.stack_state.proofs.facts.learn_kinds.Goals as goal

pub loop-index-preserved : goal.loop-index-preserved
loop-index-preserved c =
    let xs = c.args.kinds.now in
    let ys = c.loop-index.kinds in
    let i = c.loop-index.index in
    let x = get_or ys i c.index-kinds-index.result in
    record {
      length = length-set ys i c.learn_kind.new.kind ∙ c.loop-index.invariant.length;
      done =
          ap (set ys i) c.learn_kind.ensures
          ∙ map_over_more (learned c.args.fact) xs ys i x (omega arith) c.loop-index.invariant.done
          (get_or_default ys i c.index-kinds-index.result x (omega arith));
    }
